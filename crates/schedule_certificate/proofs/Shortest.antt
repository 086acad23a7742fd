-- A schedule with no more settings than the busiest link has uses is shortest, as that link's
-- transfers show (König 1916).
use Rattle.std.proofs.Common.{◌≡◌, ℕ, ◌≤◌, List, [], ◌∷◌, length, Option, Some, None, inl, inr, refl, subst, arith}
use Rattle.batch.specs.declared.transfer.Transfer.{Transfer}
use Rattle.batch.specs.Batches.{IsBatch}
use Rattle.link_graph.specs.declared.link.Link.{Link}
use Rattle.link_graph.specs.Counts.{uses}
use Rattle.link_graph.specs.Certificates.{Naming, AreDistinct, CertifiesBy}
use Rattle.link_graph.proofs.Koenig.{at_least, certified}
use Rattle.link_graph.proofs.Users.{counted, uses_few}
use Rattle.link_graph.proofs.UserCounts.{unused}
use Rattle.alternating_path.specs.Classes.{ColouredSettings}
use Rattle.schedule_certificate.specs.Reinsertions.{AreFew}
use Rattle.schedule_certificate.specs.Parts.{IsDegree}
use Rattle.schedule_certificate.specs.Plans.{plan_of, NamesBusiest, IsPlan, IsColoured, uses_of, HasFewReinsertions}

no_settings : (settings : List (List ℕ)) → length settings ≤ 0 → settings ≡ []
no_settings [] few = refl
no_settings (s ∷ settings) few = absurd (omega (arith, few))

-- no more settings than any number that bounds the uses of each link
at_most : (batch : List Transfer) (coloured : ColouredSettings) (n : ℕ) → IsColoured batch coloured → ((link : Link) → uses batch link ≤ n)
    → length coloured.settings ≤ n
at_most batch coloured n c all = elim c.is_degree.reached [ inl none ↦ omega (arith, c.count, none) | inr at ↦ omega (arith, c.count, at.1, all at.0) ]

certifies : (batch : List Transfer) (coloured : ColouredSettings) (link : Option Link) (named : List ℕ) → IsColoured batch coloured
    → NamesBusiest batch link named → CertifiesBy batch coloured.settings link named
certifies batch coloured None named c names = record {
  batch_empty = names.0;
  none_named = names.1;
  no_settings = no_settings coloured.settings (at_most batch coloured 0 c (λ link. unused batch link names.0));
}
certifies batch coloured (Some link) named c names =
    let distinct : AreDistinct named = λ i j d less within same. omega (arith, names.1.ascending i j d less within, same) in
    record {
      some = omega (arith, counted batch link named names.1, names.0.used);
      all_use = names.1.each;
      distinct = distinct;
      many = omega (
        arith,
        counted batch link named names.1,
        at_most batch coloured (uses batch link) c names.0.most,
        at_least batch link named coloured.settings names.1.each distinct c.schedule,
      );
    }

pub is_plan : (batch : List Transfer) (coloured : ColouredSettings) (named : Naming) → IsBatch batch → IsColoured batch coloured
    → NamesBusiest batch named.link named.transfers
    → IsPlan (plan_of batch coloured named)
is_plan batch coloured named fits c names =
    let certificate = certifies batch coloured named.link named.transfers c names in
    record {
      fits = fits;
      shortest = certified batch coloured.settings named c.schedule certificate;
      certificate = certificate;
      busiest = names;
      none_empty = c.none_empty;
      ascending = c.ascending;
      by_least = c.by_least;
      few = at_most batch coloured (length batch) c (λ link. uses_few batch link);
    }

-- the uses of the busiest link are the greatest degree
busiest_degree : (batch : List Transfer) (link : Option Link) (named : List ℕ) (d : ℕ) → IsDegree batch d → NamesBusiest batch link named → d
    ≡ uses_of batch link
busiest_degree batch None named d degree names = elim degree.reached [ inl none ↦ none | inr at ↦ omega (arith, at.1, unused batch at.0 names.0) ]
busiest_degree batch (Some link) named d degree names = elim degree.reached [
  | inl none ↦ omega (arith, none, degree.most link)
  | inr at ↦ omega (arith, at.1, names.0.most at.0, degree.most link)
]

pub few_reinserted : (batch : List Transfer) (coloured : ColouredSettings) (named : Naming) → IsColoured batch coloured
    → NamesBusiest batch named.link named.transfers
    → HasFewReinsertions (plan_of batch coloured named)
few_reinserted batch coloured named c names = subst (λ (d : ℕ). AreFew (length batch) d coloured.inserted)
    (busiest_degree batch named.link named.transfers c.degree c.is_degree names) c.few
