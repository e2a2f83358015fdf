-- What faults were found, and which are left to find.
use Rattle.std.proofs.Common.{◌≡◌, ℕ, ◌+◌, ◌<◌, ◌≤◌, List, [], ◌++◌, length, map, drop, get_or, ap, sym, ◌∙◌, refl, subst, add-one, drop-cons}
use Rattle.std.specs.List.{flat_map}
use Rattle.std.proofs.Math.ListN.{drop_of_length-le}
use Rattle.je_scopes.specs.Faults.{Fault, least}
use Rattle.name_faults.specs.declared.faults.Faults.{Faults}
use Rattle.name_faults.specs.View.{Adds, earliest, first_of}
use Rattle.name_faults.proofs.Earliest.{earliest-assoc, earliest-none, least-append}

-- of what was to be found from a start
pub record Left (start now : Faults) (rest whole : List Fault) : Type 0 where
  pub first : earliest (first_of now) (least rest) ≡ earliest (first_of start) (least whole)

pub left_all : (a : Faults) (whole : List Fault) → Left a a whole whole
left_all a whole = record { first = refl }

pub left_step : {start a b : Faults} (found rest whole : List Fault) → Left start a (found ++ rest) whole → Adds a b found → Left start b rest whole
left_step {a = a} found rest whole l s = record {
  first = ap (λ o. earliest o (least rest)) s.first ∙ earliest-assoc (first_of a) (least found) (least rest) ∙ ap (earliest (first_of a)) (sym (least-append found rest)) ∙ l.first;
}

pub left_done : {start now : Faults} (whole : List Fault) → Left start now [] whole → Adds start now whole
left_done {now = now} whole l = record { first = sym (earliest-none (first_of now)) ∙ l.first }

pub adds_none : (a : Faults) → Adds a a []
adds_none a = left_done [] (left_all a [])

pub adds_both : {a b c : Faults} (found further : List Fault) → Adds a b found → Adds b c further → Adds a c (found ++ further)
adds_both {a = a} {b = b} {c = c} found further s t = record {
  first = t.first ∙ ap (λ o. earliest o (least further)) s.first ∙ earliest-assoc (first_of a) (least found) (least further) ∙ ap (earliest (first_of a)) (sym (least-append found further));
}

-- ---- of each element of a list in memory

module _ {X Y : Type 0} (f : Y → List Fault) (see : X → Y) (xs : List X) where
  pub left_next : {start a b : Faults} (i : ℕ) (d : X) (whole : List Fault) → i < length xs → Left start a (flat_map f (map see (drop i xs))) whole → Adds a b (f (see (get_or xs i d))) →
      Left start b (flat_map f (map see (drop (i + 1) xs))) whole
  left_next {start = start} {a = a} i d whole within l s =
      left_step (f (see (get_or xs i d))) (flat_map f (map see (drop (i + 1) xs))) whole
      (subst (λ (fs : List Fault). Left start a fs whole) (rw (add-one, drop-cons xs i d) refl) l) s

  pub left_end : {start a : Faults} (i : ℕ) (whole : List Fault) → length xs ≤ i → Left start a (flat_map f (map see (drop i xs))) whole → Adds start a whole
  left_end {start = start} {a = a} i whole past l = left_done whole (subst (λ (ys : List X). Left start a (flat_map f (map see ys)) whole) (drop_of_length-le xs past) l)
