-- A schedule with its certificate is right or has one first fault, and not both.
use Rattle.std.proofs.Common.{◌≡◌, ◌≢◌, ℕ, ◌<◌, List, [], ◌∷◌, ◌++◌, length, get_or, take, All, Option, Some, None, slice_get, refl, sym, ap, subst, ◌∙◌, arith, inl, inr, ◌⊎◌}
use Rattle.std.specs.Prelude.{Contains, IsSome, true, false}
use Rattle.std.specs.List.{concat}
use Rattle.std.specs.Option.{IsSomeAnd}
use Rattle.std.proofs.lemmas.Bool.{cases_lt}
use Rattle.std.proofs.lemmas.List.{get_or_at, get_or_append_left, get_or-take, length-append, length-take-le, nil_from_length}
use Rattle.std.proofs.lemmas.Option.{slice_get_within, get_or_from_slice_get}
use Rattle.batch.specs.declared.transfer.Transfer.{Transfer}
use Rattle.link_graph.specs.declared.check_fault.CheckFault.{CheckFault}
use Rattle.link_graph.specs.declared.check_fault.CheckFault.TheVariants.{Unknown, Repeated, Missing, Clash, WrongLink, CertificateRepeats, NotTight, NoMemory}
use Rattle.link_graph.specs.declared.link.End.{End}
use Rattle.link_graph.specs.declared.link.End.TheVariants.{Zero, Three}
use Rattle.link_graph.specs.declared.link.Link.{Link}
use Rattle.link_graph.specs.Links.{StandsBefore}
use Rattle.link_graph.specs.Uses.{Uses, IsMatching}
use Rattle.link_graph.specs.Schedules.{times, IsScheduleOf}
use Rattle.link_graph.specs.Certificates.{Naming, AreDistinct, CertifiesBy, IsCertificate}
use Rattle.link_graph.specs.Checks.{IsFirstWithout, IsFirstRepeated, IsFirstMissing, IsShared, IsFirstClash, UsesNamed, IsFirstCheckFault}
use Rattle.link_graph.proofs.Users.{some_same, made}
use Rattle.link_graph.proofs.Once.{is_known, is_once}
use Rattle.link_graph.proofs.Sharing.{shared_no_matching}

-- ---- each kind of fault against its absence

not_all : (P : ℕ → Type 0) (xs : List ℕ) (x : ℕ) → IsFirstWithout P xs x → All P xs → ⊥
not_all P xs x w all =
    let here : get_or xs (length w.before) 0 ≡ x = ap (λ (ys : List ℕ). get_or ys (length w.before) 0) w.parts
    ∙ get_or_at w.before x w.after 0 (length w.before) refl in
    w.bad (subst P here (all (length w.before) 0 (omega (arith, ap length w.parts, length-append w.before (x ∷ w.after)))))

not_distinct : (xs : List ℕ) (x : ℕ) → IsFirstRepeated xs x → AreDistinct xs → ⊥
not_distinct xs x r distinct =
    let at : ℕ = r.again.0 in
    let here : get_or xs (length r.before) x ≡ x = ap (λ (ys : List ℕ). get_or ys (length r.before) x) r.parts
    ∙ get_or_at r.before x r.after x (length r.before) refl in
    let earlier : get_or xs at x ≡ x = ap (λ (ys : List ℕ). get_or ys at x) r.parts ∙ get_or_append_left r.before (x ∷ r.after) x at r.again.1 ∙ r.again.2 in
    distinct at (length r.before) x r.again.1 (omega (arith, ap length r.parts, length-append r.before (x ∷ r.after))) (earlier ∙ sym here)

not_every : (n : ℕ) (xs : List ℕ) (t : ℕ) → IsFirstMissing n xs t → ((u : ℕ) → u < n → Contains xs u) → ⊥
not_every n xs t m every = m.missing (every t m.below)

matching_at : (batch : List Transfer) (settings : List (List ℕ)) (k : ℕ) (setting : List ℕ) → slice_get settings k ≡ Some setting
    → All (IsMatching batch) settings → IsMatching batch setting
matching_at batch settings k setting here all = subst (λ (s : List ℕ). IsMatching batch s) (get_or_from_slice_get settings k setting [] here)
    (all k [] (slice_get_within settings k setting here))

not_matchings : (batch : List Transfer) (settings : List (List ℕ)) (k : ℕ) (link : Link) → IsFirstClash batch settings k link → All (IsMatching batch) settings
    → ⊥
not_matchings batch settings k link clash all = shared_no_matching batch clash.setting link (matching_at batch settings k clash.setting clash.here all)
    clash.shared

-- ---- one first fault of each kind

-- the other list goes on after x
pub record Further (before : List ℕ) (x : ℕ) (other : List ℕ) : Type 0 where
  pub more : List ℕ
  pub list : other ≡ before ++ x ∷ more

abbrev pub cons : ℕ → List ℕ → List ℕ
cons x xs = x ∷ xs

head_same : (x y : ℕ) (xs ys : List ℕ) → cons x xs ≡ cons y ys → x ≡ y
head_same x y xs ys e = cc

pub tail_same : (x y : ℕ) (xs ys : List ℕ) → cons x xs ≡ cons y ys → xs ≡ ys
tail_same x y xs ys e = cc

further_cons : (c d x : ℕ) (b other : List ℕ) → c ≡ d → Further b x other → Further (c ∷ b) x (d ∷ other)
further_cons c d x b other e f = record { more = f.more; list = ap (λ (n : ℕ). n ∷ other) (sym e) ∙ ap (cons c) f.list }

two_cuts : (b c : List ℕ) (x y : ℕ) (a d : List ℕ) → b ++ x ∷ a ≡ c ++ y ∷ d → (x ≡ y) ⊎ (Further b x c ⊎ Further c y b)
two_cuts [] [] x y a d same = inl (head_same x y a d same)
two_cuts [] (e ∷ c) x y a d same = inr (inl (record { more = c; list = ap (λ (n : ℕ). n ∷ c) (sym (head_same x e a (c ++ y ∷ d) same)) }))
two_cuts (e ∷ b) [] x y a d same = inr (inr (record { more = b; list = ap (λ (n : ℕ). n ∷ b) (head_same e y (b ++ x ∷ a) d same) }))
two_cuts (e ∷ b) (f ∷ c) x y a d same =
    let heads = head_same e f (b ++ x ∷ a) (c ++ y ∷ d) same in
    elim (two_cuts b c x y a d (tail_same e f (b ++ x ∷ a) (c ++ y ∷ d) same)) [
      | inl p ↦ inl p
      | inr p ↦ elim p [ inl q ↦ inr (inl (further_cons e f x b c heads q)) | inr q ↦ inr (inr (further_cons f e y c b (sym heads) q)) ]
    ]

further_bad : (P : ℕ → Type 0) (before other : List ℕ) (x : ℕ) → Further before x other → All P other → P x
further_bad P before other x f all =
    let here : get_or other (length before) 0 ≡ x = ap (λ (ys : List ℕ). get_or ys (length before) 0) f.list ∙ get_or_at before x f.more 0 (length before)
    refl in
    subst P here (all (length before) 0 (omega (arith, ap length f.list, length-append before (x ∷ f.more))))

same_first : (P : ℕ → Type 0) (xs : List ℕ) (x y : ℕ) → IsFirstWithout P xs x → IsFirstWithout P xs y → x ≡ y
same_first P xs x y p q =
    elim (two_cuts p.before q.before x y p.after q.after (sym p.parts ∙ q.parts)) [
      | inl e ↦ e
      | inr f ↦ elim f [
        | inl g ↦ absurd (p.bad (further_bad P p.before q.before x g q.good))
        | inr g ↦
            absurd (q.bad (further_bad P q.before p.before y g p.good))
      ]
    ]

further_repeats : (before other : List ℕ) (x : ℕ) → Further before x other → Contains before x → AreDistinct other → ⊥
further_repeats before other x f again distinct =
    not_distinct other x
    (record {
      before = before;
      after = f.more;
      parts = f.list;
      distinct = λ i j d lt within same. distinct i j d lt
          (omega (arith, ap length f.list, length-append before (x ∷ f.more))) (left i d (omega arith) ∙ same ∙ sym (left j d within));
      again = again;
    }) distinct
  where
    left : (i d : ℕ) → i < length before → get_or other i d ≡ get_or before i d
    left i d lt = ap (λ (ys : List ℕ). get_or ys i d) f.list ∙ get_or_append_left before (x ∷ f.more) d i lt

same_repeated : (xs : List ℕ) (x y : ℕ) → IsFirstRepeated xs x → IsFirstRepeated xs y → x ≡ y
same_repeated xs x y p q =
    elim (two_cuts p.before q.before x y p.after q.after (sym p.parts ∙ q.parts)) [
      | inl e ↦ e
      | inr f ↦ elim f [
        | inl g ↦ absurd (further_repeats p.before q.before x g p.again q.distinct)
        | inr g ↦
            absurd (further_repeats q.before p.before y g q.again p.distinct)
      ]
    ]

same_missing : (n : ℕ) (xs : List ℕ) (t u : ℕ) → IsFirstMissing n xs t → IsFirstMissing n xs u → t ≡ u
same_missing n xs t u p q =
    elim (cases_lt t u) [
      | inl less ↦ absurd (p.missing (q.lesser t less))
      | inr le ↦ elim (cases_lt u t) [ inl less ↦ absurd (q.missing (p.lesser u less)) | inr ge ↦ omega arith ]
    ]

in_order : (d e : End) (m n : ℕ) → (made d m ≡ made e n) ⊎ (StandsBefore (made d m) (made e n) ⊎ StandsBefore (made e n) (made d m))
in_order Zero Zero m n = elim (cases_lt m n) [
  | inl less ↦ inr (inl (inr (refl, less)))
  | inr le ↦
      elim (cases_lt n m) [ inl less ↦ inr (inr (inr (refl, less))) | inr ge ↦ inl (ap (made Zero) (omega arith)) ]
]
in_order Zero Three m n = inr (inl (inl (refl, refl)))
in_order Three Zero m n = inr (inr (inl (refl, refl)))
in_order Three Three m n = elim (cases_lt m n) [
  | inl less ↦ inr (inl (inr (refl, less)))
  | inr le ↦
      elim (cases_lt n m) [ inl less ↦ inr (inr (inr (refl, less))) | inr ge ↦ inl (ap (made Three) (omega arith)) ]
]

same_link : (batch : List Transfer) (settings : List (List ℕ)) (k : ℕ) (a b : Link) → IsFirstClash batch settings k a → IsFirstClash batch settings k b → a ≡ b
same_link batch settings k a b p q =
    let same : p.setting ≡ q.setting = some_same p.setting q.setting (sym p.here ∙ q.here) in
    elim (in_order a.end b.end a.«module» b.«module») [
      | inl e ↦ e
      | inr f ↦ elim f [
        | inl before ↦ absurd (q.first a before (subst (λ (s : List ℕ). IsShared batch s a) same p.shared))
        | inr before ↦ absurd (p.first b before (subst (λ (s : List ℕ). IsShared batch s b) (sym same) q.shared))
      ]
    ]

earlier_matching : (batch : List Transfer) (settings : List (List ℕ)) (k l : ℕ) (a b : Link) → k < l → IsFirstClash batch settings k a
    → IsFirstClash batch settings l b → ⊥
earlier_matching batch settings k l a b less p q =
    let inside : l < length settings = slice_get_within settings l q.setting q.here in
    let at : get_or (take l settings) k [] ≡ p.setting = get_or-take l settings k [] less ∙ get_or_from_slice_get settings k p.setting [] p.here in
    shared_no_matching batch p.setting a (subst (λ (s : List ℕ). IsMatching batch s)
    at (q.earlier k [] (omega (arith, less, length-take-le l settings (omega arith))))) p.shared

same_clash : (batch : List Transfer) (settings : List (List ℕ)) (k l : ℕ) (a b : Link) → IsFirstClash batch settings k a → IsFirstClash batch settings l b
    → Clash k a ≡ Clash l b
same_clash batch settings k l a b p q =
    elim (cases_lt k l) [
      | inl less ↦ absurd (earlier_matching batch settings k l a b less p q)
      | inr le ↦ elim (cases_lt l k) [
        | inl less ↦ absurd (earlier_matching batch settings l k b a less q p)
        | inr ge ↦
            let same : k ≡ l = omega arith in
            ap (λ (n : ℕ). Clash n a) same ∙ ap (Clash l) (same_link batch settings l a b (subst (λ (n : ℕ). IsFirstClash batch settings n a) same p) q)
      ]
    ]

-- ---- certificates, in the checker's words

pub certificate_uses : (batch : List Transfer) (settings : List (List ℕ)) (link : Option Link) (ts : List ℕ) → CertifiesBy batch settings link ts
    → All (λ t. IsSomeAnd link (λ l. Uses batch t l)) ts
certificate_uses batch settings None ts c = rw c.none_named (λ k d lt. absurd (omega arith))
certificate_uses batch settings (Some link) ts c = c.all_use

pub certificate_distinct : (batch : List Transfer) (settings : List (List ℕ)) (link : Option Link) (ts : List ℕ) → CertifiesBy batch settings link ts
    → AreDistinct ts
certificate_distinct batch settings None ts c = rw c.none_named (λ i j d lt within. absurd (omega arith))
certificate_distinct batch settings (Some link) ts c = c.distinct

pub certificate_many : (batch : List Transfer) (settings : List (List ℕ)) (link : Option Link) (ts : List ℕ) → CertifiesBy batch settings link ts → length ts
    ≡ length settings
certificate_many batch settings None ts c = rw (c.none_named, c.no_settings) refl
certificate_many batch settings (Some link) ts c = c.many

none_stand : (batch : List Transfer) (settings : List (List ℕ)) → IsScheduleOf batch settings → settings ≡ [] → length batch ≡ 0
none_stand batch settings s empty =
    elim (cases_lt 0 (length batch)) [
      | inl some ↦ let none : times 0 settings ≡ 0 = rw empty refl in absurd (omega (arith, s.once 0 some))
      | inr few ↦ omega arith
    ]

pub certificate_is : (batch : List Transfer) (settings : List (List ℕ)) (link : Option Link) (ts : List ℕ) → (IsSome link → 0 < length ts)
    × (0 < length ts → IsSome link) → IsScheduleOf batch settings → All (λ t. IsSomeAnd link (λ l. Uses batch t l)) ts → AreDistinct ts → length settings
    ≡ length ts → CertifiesBy batch settings link ts
certificate_is batch settings None ts both s uses distinct many =
    let none : length ts ≡ 0 = elim (cases_lt 0 (length ts)) [ inl some ↦ absurd (let bad : false ≡ true = both.1 some in cc) | inr few ↦ omega arith ] in
    let empty : settings ≡ [] = nil_from_length settings (omega arith) in
    record { batch_empty = nil_from_length batch (none_stand batch settings s empty); none_named = nil_from_length ts none; no_settings = empty }
certificate_is batch settings (Some link) ts both s uses distinct many = record { some = both.0 refl; all_use = uses; distinct = distinct; many = sym many }

-- ---- the laws

pub none_wrong : (batch : List Transfer) (settings : List (List ℕ)) (named : Naming) (f : CheckFault) → IsScheduleOf batch settings
    → IsCertificate batch settings named → IsFirstCheckFault batch settings named f → ⊥
none_wrong batch settings named (Unknown a) s c p = not_all (λ u. u < length batch) (concat settings) a p (is_known batch settings s)
none_wrong batch settings named (Repeated a) s c p = not_distinct (concat settings) a p.1 (is_once batch settings s).distinct
none_wrong batch settings named (Missing a) s c p = not_every (length batch) (concat settings) a p.2 (is_once batch settings s).every
none_wrong batch settings named (Clash a b) s c p = not_matchings batch settings a b p.2 s.matchings
none_wrong batch settings named (WrongLink a) s c p = not_all (UsesNamed batch named.link) named.transfers a p.1
    (certificate_uses batch settings named.link named.transfers c)
none_wrong batch settings named (CertificateRepeats a) s c p =
    not_distinct named.transfers a p.2 (certificate_distinct batch settings named.link named.transfers c)
none_wrong batch settings named (NotTight a b) s c p = p.5 (p.3 ∙ sym (certificate_many batch settings named.link named.transfers c) ∙ sym p.4)
none_wrong batch settings named NoMemory s c p = p

pub same_fault : (batch : List Transfer) (settings : List (List ℕ)) (named : Naming) (f g : CheckFault) → IsFirstCheckFault batch settings named f
    → IsFirstCheckFault batch settings named g → f ≡ g
same_fault batch settings named (Unknown a) (Unknown x) p q = ap Unknown (same_first (λ u. u < length batch) (concat settings) a x p q)
same_fault batch settings named (Unknown a) (Repeated x) p q = absurd (not_all (λ u. u < length batch) (concat settings) _ p q.0)
same_fault batch settings named (Unknown a) (Missing x) p q = absurd (not_all (λ u. u < length batch) (concat settings) _ p q.0)
same_fault batch settings named (Unknown a) (Clash x y) p q = absurd (not_all (λ u. u < length batch) (concat settings) _ p q.0)
same_fault batch settings named (Unknown a) (WrongLink x) p q = absurd (not_all (λ u. u < length batch) (concat settings) _ p (is_known batch settings q.0))
same_fault batch settings named (Unknown a) (CertificateRepeats x) p q =
    absurd (not_all (λ u. u < length batch) (concat settings) _ p (is_known batch settings q.0))
same_fault batch settings named (Unknown a) (NotTight x y) p q = absurd (not_all (λ u. u < length batch) (concat settings) _ p (is_known batch settings q.0))
same_fault batch settings named (Unknown a) NoMemory p q = absurd q
same_fault batch settings named (Repeated a) (Unknown x) p q = absurd (not_all (λ u. u < length batch) (concat settings) _ q p.0)
same_fault batch settings named (Repeated a) (Repeated x) p q = ap Repeated (same_repeated (concat settings) a x p.1 q.1)
same_fault batch settings named (Repeated a) (Missing x) p q = absurd (not_distinct (concat settings) _ p.1 (q.1))
same_fault batch settings named (Repeated a) (Clash x y) p q = absurd (not_distinct (concat settings) _ p.1 (q.1.distinct))
same_fault batch settings named (Repeated a) (WrongLink x) p q = absurd (not_distinct (concat settings) _ p.1 ((is_once batch settings q.0).distinct))
same_fault batch settings named (Repeated a) (CertificateRepeats x) p q = absurd (not_distinct (concat settings) _ p.1 ((is_once batch settings q.0).distinct))
same_fault batch settings named (Repeated a) (NotTight x y) p q = absurd (not_distinct (concat settings) _ p.1 ((is_once batch settings q.0).distinct))
same_fault batch settings named (Repeated a) NoMemory p q = absurd q
same_fault batch settings named (Missing a) (Unknown x) p q = absurd (not_all (λ u. u < length batch) (concat settings) _ q p.0)
same_fault batch settings named (Missing a) (Repeated x) p q = absurd (not_distinct (concat settings) _ q.1 (p.1))
same_fault batch settings named (Missing a) (Missing x) p q = ap Missing (same_missing (length batch) (concat settings) a x p.2 q.2)
same_fault batch settings named (Missing a) (Clash x y) p q = absurd (not_every (length batch) (concat settings) _ p.2 (q.1.every))
same_fault batch settings named (Missing a) (WrongLink x) p q = absurd (not_every (length batch) (concat settings) _ p.2 ((is_once batch settings q.0).every))
same_fault batch settings named (Missing a) (CertificateRepeats x) p q =
    absurd (not_every (length batch) (concat settings) _ p.2 ((is_once batch settings q.0).every))
same_fault batch settings named (Missing a) (NotTight x y) p q = absurd (not_every (length batch) (concat settings) _ p.2 ((is_once batch settings q.0).every))
same_fault batch settings named (Missing a) NoMemory p q = absurd q
same_fault batch settings named (Clash a b) (Unknown x) p q = absurd (not_all (λ u. u < length batch) (concat settings) _ q p.0)
same_fault batch settings named (Clash a b) (Repeated x) p q = absurd (not_distinct (concat settings) _ q.1 (p.1.distinct))
same_fault batch settings named (Clash a b) (Missing x) p q = absurd (not_every (length batch) (concat settings) _ q.2 (p.1.every))
same_fault batch settings named (Clash a b) (Clash x y) p q = same_clash batch settings a x b y p.2 q.2
same_fault batch settings named (Clash a b) (WrongLink x) p q = absurd (not_matchings batch settings _ _ p.2 q.0.matchings)
same_fault batch settings named (Clash a b) (CertificateRepeats x) p q = absurd (not_matchings batch settings _ _ p.2 q.0.matchings)
same_fault batch settings named (Clash a b) (NotTight x y) p q = absurd (not_matchings batch settings _ _ p.2 q.0.matchings)
same_fault batch settings named (Clash a b) NoMemory p q = absurd q
same_fault batch settings named (WrongLink a) (Unknown x) p q = absurd (not_all (λ u. u < length batch) (concat settings) _ q (is_known batch settings p.0))
same_fault batch settings named (WrongLink a) (Repeated x) p q = absurd (not_distinct (concat settings) _ q.1 ((is_once batch settings p.0).distinct))
same_fault batch settings named (WrongLink a) (Missing x) p q = absurd (not_every (length batch) (concat settings) _ q.2 ((is_once batch settings p.0).every))
same_fault batch settings named (WrongLink a) (Clash x y) p q = absurd (not_matchings batch settings _ _ q.2 p.0.matchings)
same_fault batch settings named (WrongLink a) (WrongLink x) p q = ap WrongLink (same_first (UsesNamed batch named.link) named.transfers a x p.1 q.1)
same_fault batch settings named (WrongLink a) (CertificateRepeats x) p q = absurd (not_all (UsesNamed batch named.link) named.transfers _ p.1 q.1)
same_fault batch settings named (WrongLink a) (NotTight x y) p q = absurd (not_all (UsesNamed batch named.link) named.transfers _ p.1 q.1)
same_fault batch settings named (WrongLink a) NoMemory p q = absurd q
same_fault batch settings named (CertificateRepeats a) (Unknown x) p q =
    absurd (not_all (λ u. u < length batch) (concat settings) _ q (is_known batch settings p.0))
same_fault batch settings named (CertificateRepeats a) (Repeated x) p q = absurd (not_distinct (concat settings) _ q.1 ((is_once batch settings p.0).distinct))
same_fault batch settings named (CertificateRepeats a) (Missing x) p q =
    absurd (not_every (length batch) (concat settings) _ q.2 ((is_once batch settings p.0).every))
same_fault batch settings named (CertificateRepeats a) (Clash x y) p q = absurd (not_matchings batch settings _ _ q.2 p.0.matchings)
same_fault batch settings named (CertificateRepeats a) (WrongLink x) p q = absurd (not_all (UsesNamed batch named.link) named.transfers _ q.1 p.1)
same_fault batch settings named (CertificateRepeats a) (CertificateRepeats x) p q = ap CertificateRepeats (same_repeated named.transfers a x p.2 q.2)
same_fault batch settings named (CertificateRepeats a) (NotTight x y) p q = absurd (not_distinct named.transfers _ p.2 q.2)
same_fault batch settings named (CertificateRepeats a) NoMemory p q = absurd q
same_fault batch settings named (NotTight a b) (Unknown x) p q = absurd (not_all (λ u. u < length batch) (concat settings) _ q (is_known batch settings p.0))
same_fault batch settings named (NotTight a b) (Repeated x) p q = absurd (not_distinct (concat settings) _ q.1 ((is_once batch settings p.0).distinct))
same_fault batch settings named (NotTight a b) (Missing x) p q = absurd (not_every (length batch) (concat settings) _ q.2 ((is_once batch settings p.0).every))
same_fault batch settings named (NotTight a b) (Clash x y) p q = absurd (not_matchings batch settings _ _ q.2 p.0.matchings)
same_fault batch settings named (NotTight a b) (WrongLink x) p q = absurd (not_all (UsesNamed batch named.link) named.transfers _ q.1 p.1)
same_fault batch settings named (NotTight a b) (CertificateRepeats x) p q = absurd (not_distinct named.transfers _ q.2 p.2)
same_fault batch settings named (NotTight a b) (NotTight x y) p q = ap (λ (n : ℕ). NotTight n b) (p.3 ∙ sym q.3) ∙ ap (NotTight x) (p.4 ∙ sym q.4)
same_fault batch settings named (NotTight a b) NoMemory p q = absurd q
same_fault batch settings named NoMemory g p q = absurd p

-- where nothing is wrong, only want of memory is answered
pub only_memory : (batch : List Transfer) (settings : List (List ℕ)) (named : Naming) (f : CheckFault)
    → (f ≢ NoMemory → IsFirstCheckFault batch settings named f) → IsScheduleOf batch settings → IsCertificate batch settings named → f ≡ NoMemory
only_memory batch settings named NoMemory first s c = refl
only_memory batch settings named (Unknown t) first s c = absurd (none_wrong batch settings named (Unknown t) s c (first (λ e. cc)))
only_memory batch settings named (Repeated t) first s c = absurd (none_wrong batch settings named (Repeated t) s c (first (λ e. cc)))
only_memory batch settings named (Missing t) first s c = absurd (none_wrong batch settings named (Missing t) s c (first (λ e. cc)))
only_memory batch settings named (Clash k link) first s c = absurd (none_wrong batch settings named (Clash k link) s c (first (λ e. cc)))
only_memory batch settings named (WrongLink t) first s c = absurd (none_wrong batch settings named (WrongLink t) s c (first (λ e. cc)))
only_memory batch settings named (CertificateRepeats t) first s c = absurd (none_wrong batch settings named (CertificateRepeats t) s c (first (λ e. cc)))
only_memory batch settings named (NotTight m n) first s c = absurd (none_wrong batch settings named (NotTight m n) s c (first (λ e. cc)))

pub named_within : (batch : List Transfer) (link : Option Link) (t : ℕ) → IsSomeAnd link (λ l. Uses batch t l) → t < length batch
named_within batch None t used = absurd used
named_within batch (Some link) t used = slice_get_within batch t used.0 used.1
