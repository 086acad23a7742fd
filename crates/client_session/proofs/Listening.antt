-- What a listener tells of one refusal after another.
use Rattle.std.proofs.Common.{◌≡◌, ℕ, List, [], ◌∷◌, ◌++◌, flat_map, sym, ◌∙◌, append-nil, refl, subst}
use Rattle.std.proofs.lemmas.Grind.{flat_map-append}
use Rattle.std.specs.Io.KnownBytes.{Appends}
use Rattle.refusals.specs.declared.refusal.Refusal.{Refusal}
use Rattle.byte_streams.proofs.Carrying.{appends_none, appends_then}
use Rattle.client_session.specs.Listening.{ListenerLog, Telling, Tells, TellsOfRefusals}
use Rattle.client_session.proofs.Lists.{every_append}

pub tells_nothing : {MayTell : Refusal → List ℕ → Type 0} (a : ListenerLog) → TellsOfRefusals MayTell a a
tells_nothing a = record { tellings = []; each = tt; appended = appends_none a.bytes; loan = refl }

pub tells_one : {MayTell : Refusal → List ℕ → Type 0} {refusal : Refusal} {a b : ListenerLog} → Tells MayTell refusal a b → TellsOfRefusals MayTell a b
tells_one {MayTell} {refusal} {a} {b} t = record {
  tellings = record { refusal = refusal; bytes = t.bytes } ∷ [];
  each = (t.may, tt);
  appended = subst (λ more. Appends a.bytes b.bytes more) (sym (append-nil t.bytes)) t.appended;
  loan = t.loan;
}

pub tells_more : {MayTell : Refusal → List ℕ → Type 0} {a b c : ListenerLog} → TellsOfRefusals MayTell a b → TellsOfRefusals MayTell b c
    → TellsOfRefusals MayTell a c
tells_more {MayTell} {a} {b} {c} s t =
    let bytes_of : Telling → List ℕ = λ x. x.bytes in
    let all : flat_map bytes_of (s.tellings ++ t.tellings) ≡ flat_map bytes_of s.tellings ++ flat_map bytes_of t.tellings =
    flat_map-append bytes_of s.tellings t.tellings in
    record {
      tellings = s.tellings ++ t.tellings;
      each = every_append (λ x. MayTell x.refusal x.bytes) s.tellings t.tellings s.each t.each;
      appended = subst (λ more. Appends a.bytes c.bytes more) (sym all)
          (appends_then a.bytes b.bytes c.bytes (flat_map bytes_of s.tellings) (flat_map bytes_of t.tellings) s.appended t.appended);
      loan = t.loan ∙ s.loan;
    }

-- nothing was told since
pub tells_still : {MayTell : Refusal → List ℕ → Type 0} {a b c : ListenerLog} → TellsOfRefusals MayTell a b → c ≡ b → TellsOfRefusals MayTell a c
tells_still {MayTell} {a} s same = subst (λ (x : ListenerLog). TellsOfRefusals MayTell a x) (sym same) s
