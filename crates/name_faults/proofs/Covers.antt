-- Faults that were found, so that they make no difference any more.
use Rattle.std.proofs.Common.{◌≡◌, List, ◌++◌, ap, sym, ◌∙◌}
use Rattle.je_scopes.specs.Faults.{Fault, least}
use Rattle.name_faults.specs.declared.faults.Faults.{Faults}
use Rattle.name_faults.specs.View.{Adds, earliest, first_of}
use Rattle.name_faults.proofs.Earliest.{earliest-assoc, earliest-comm, earliest-same, least-append}

pub record Covers (now : Faults) (known : List Fault) : Type 0 where
  pub first : earliest (first_of now) (least known) ≡ first_of now

pub covers_found : {a b : Faults} (found : List Fault) → Adds a b found → Covers b found
covers_found {a = a} {b = b} found s = record {
  first = ap (λ o. earliest o (least found)) s.first ∙ earliest-assoc (first_of a) (least found) (least found) ∙ ap (earliest (first_of a)) (earliest-same (least found)) ∙ sym s.first;
}

-- what is found later changes nothing of it
pub covers_on : {a b : Faults} (known found : List Fault) → Covers a known → Adds a b found → Covers b known
covers_on {a = a} {b = b} known found k s = record {
  first = ap (λ o. earliest o (least known)) s.first ∙ earliest-assoc (first_of a) (least found) (least known) ∙ ap (earliest (first_of a)) (earliest-comm (least found) (least known))
      ∙ sym (earliest-assoc (first_of a) (least known) (least found)) ∙ ap (λ o. earliest o (least found)) k.first ∙ sym s.first;
}

-- with what is known already, what is found is the same
pub adds_known : {a b : Faults} (known found : List Fault) → Covers a known → Adds a b found → Adds a b (found ++ known)
adds_known {a = a} {b = b} known found k s =
    let c = covers_on known found k s in
    record {
      first = sym c.first ∙ ap (λ o. earliest o (least known)) s.first ∙ earliest-assoc (first_of a) (least found) (least known) ∙ ap (earliest (first_of a)) (sym (least-append found known));
    }

-- What was found first, though it stands among what is found.
pub adds_ahead : {a b c : Faults} (known found : List Fault) → Adds a b known → Adds b c found → earliest (least known) (least found) ≡ least found → Adds a c found
adds_ahead {a = a} {b = b} {c = c} known found s t among = record {
  first = t.first ∙ ap (λ o. earliest o (least found)) s.first ∙ earliest-assoc (first_of a) (least known) (least found) ∙ ap (earliest (first_of a)) among;
}

-- faults behind others and before others are among them all
pub among : (before known behind : List Fault) → earliest (least known) (least (before ++ known ++ behind)) ≡ least (before ++ known ++ behind)
among before known behind =
    ap (earliest (least known)) (whole) ∙ earliest-comm (least known) (earliest (earliest (least before) (least known)) (least behind))
    ∙ earliest-assoc (earliest (least before) (least known)) (least behind) (least known)
    ∙ ap (earliest (earliest (least before) (least known))) (earliest-comm (least behind) (least known))
    ∙ sym (earliest-assoc (earliest (least before) (least known)) (least known) (least behind))
    ∙ ap (λ o. earliest o (least behind)) (earliest-assoc (least before) (least known) (least known) ∙ ap (earliest (least before)) (earliest-same (least known)))
    ∙ sym (whole)
  where
    whole : least (before ++ known ++ behind) ≡ earliest (earliest (least before) (least known)) (least behind)
    whole = least-append (before ++ known) behind ∙ ap (λ o. earliest o (least behind)) (least-append before known)
