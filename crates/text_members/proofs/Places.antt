-- The places of a part, from one place on.
use Rattle.std.proofs.Common.{◌≡◌, ℕ, ◌+◌, ◌-◌, ◌<◌, ◌≤◌, true, false, cond, eqb, List, [], ◌∷◌, length, get_or, take, drop, Option, Some, None, refl, sym, ap, ◌∙◌}
use Rattle.std.proofs.lemmas.List.{drop_more, drop_all, take_rest}
use Rattle.std.specs.Prelude.{ℤ, pos, ◌==◌, position}
use Rattle.std.proofs.Math.Dec.{eqb-suc-zero}
use Rattle.text_members.specs.Finding.{index_from, index_of_unit, is_prefix}

first_here : (at unit : ℕ) (units part : List ℕ) → is_prefix part (unit ∷ units) ≡ true →
    index_from at (unit ∷ units) part ≡ Some at
first_here at unit units part e = rw e refl

first_later : (at unit : ℕ) (units part : List ℕ) → is_prefix part (unit ∷ units) ≡ false →
    index_from at (unit ∷ units) part ≡ index_from (at + 1) units part
first_later at unit units part e = rw e refl

pub index_here : (at : ℕ) (units part : List ℕ) → at < length units →
    is_prefix part (drop at units) ≡ true → index_from at (drop at units) part ≡ Some at
index_here at units part l e =
    let d = drop_more units at 0 l in
    ap (λ us. index_from at us part) d
    ∙ first_here at (get_or units at 0) (drop (at + 1) units) part (ap (is_prefix part) (sym d) ∙ e)

-- it stands not here, as the slice from here on reads
pub index_later : (at : ℕ) (units part : List ℕ) → at < length units →
    is_prefix part (take (length units - at) (drop at units)) ≡ false →
    index_from at (drop at units) part ≡ index_from (at + 1) (drop (at + 1) units) part
index_later at units part l e =
    let d = drop_more units at 0 l in
    ap (λ us. index_from at us part) d
    ∙ first_later at (get_or units at 0) (drop (at + 1) units) part (ap (is_prefix part) (sym d) ∙ ap (is_prefix part) (sym (take_rest units at)) ∙ e)

pub part_of_none : (part : List ℕ) → is_prefix part [] ≡ eqb (length part) 0
part_of_none [] = refl
part_of_none (unit ∷ part) = sym (eqb-suc-zero (length part))

nowhere_else : (at : ℕ) (part : List ℕ) → index_from at [] part ≡ cond (eqb (length part) 0) (Some at) None
nowhere_else at part = rw (part_of_none part) refl

pub index_past : (at : ℕ) (units part : List ℕ) → length units ≤ at →
    index_from at (drop at units) part ≡ cond (eqb (length part) 0) (Some at) None
index_past at units part l = ap (λ us. index_from at us part) (drop_all at units l) ∙ nowhere_else at part

pub ruleset places = (index_here, index_later, index_past)

pub unit_place : (units : List ℕ) (value : ℤ) (n : ℕ) (place : Option ℕ) → pos n ≡ value →
    place ≡ position (λ unit. unit == n) units → place ≡ index_of_unit units value
unit_place units value n place e p = p ∙ ap (index_of_unit units) e
