-- Reading one file after the other.
use Rattle.std.proofs.Common.{◌≡◌, ◌<◌, ◌≤◌, ℕ, zero, suc, ◌+◌, List, [], ◌∷◌, ◌++◌, String, Global, Vec, get_or, drop, length, map, refl, sym, ap, ◌∙◌, subst, inl, inr, arith}
use Rattle.std.specs.Prelude.{string_bytes}
use Rattle.std.specs.declared.option.Option.{Option}
use Rattle.std.specs.List.{AllZip}
use Rattle.std.proofs.lemmas.List.{append-nil, at_drop_more, drop_all, map-append}
use native.Mathlib.Numerals.{unary_clauses}
use Rattle.std.proofs.Math.Seq.{append_snoc}
use Rattle.planned_faults.specs.Plan.{Plan, after_one, IsPlanned}
use Rattle.je_top.specs.Files.{Held, IsWhole}
use Rattle.je_top.specs.Outcome.{Outcome}
use Rattle.je_top.specs.Plan.{after_many, FailsAmong}
use Rattle.je_top.specs.Reading.{Stops, StopsAmong}

-- the names from a place on are the name there, and those behind it
pub names_from : (names : List (String Global)) (i : ℕ) (name : String Global) → i < length names → name ≡ get_or names i name →
    map string_bytes (drop i names) ≡ string_bytes name ∷ map string_bytes (drop (i + 1) names)
names_from names i name within is =
    at_drop_more (map string_bytes) names i name within ∙ ap (λ n. string_bytes n ∷ map string_bytes (drop (i + 1) names)) (sym is)

-- the first of the names from a place on stops the reading
pub stops_at : (held : Option Held) (names : List (String Global)) (i : ℕ) (name : String Global) (o : Outcome) → i < length names → name ≡ get_or names i name →
    Stops held (string_bytes name) o → StopsAmong held (map string_bytes (drop i names)) o
stops_at held names i name o within is stops = subst (λ ns. StopsAmong held ns o) (sym (names_from names i name within is)) (inl stops)

-- one behind it does
pub stops_behind : (held : Option Held) (names : List (String Global)) (i : ℕ) (name : String Global) (bytes : List ℕ) (o : Outcome) → i < length names →
    name ≡ get_or names i name → IsWhole held (string_bytes name) bytes → StopsAmong held (map string_bytes (drop (i + 1) names)) o →
    StopsAmong held (map string_bytes (drop i names)) o
stops_behind held names i name bytes o within is whole stops =
    subst (λ ns. StopsAmong held ns o) (sym (names_from names i name within is)) (inr (bytes, whole, stops))

-- the files from a place on are the file there, and those behind it
pub whole_from : (held : Option Held) (names : List (String Global)) (i : ℕ) (name : String Global) (bytes : List ℕ) (rest : List (List ℕ)) → i < length names →
    name ≡ get_or names i name → IsWhole held (string_bytes name) bytes → AllZip (IsWhole held) (map string_bytes (drop (i + 1) names)) rest →
    AllZip (IsWhole held) (map string_bytes (drop i names)) (bytes ∷ rest)
whole_from held names i name bytes rest within is whole others =
    subst (λ ns. AllZip (IsWhole held) ns (bytes ∷ rest)) (sym (names_from names i name within is)) (whole, others)

-- files in memory, as their bytes
abbrev pub contents : List (Vec ℕ Global) → List (List ℕ)
contents files = map (λ file. file.items) files

-- what is read and then one more file, before others
pub contents_with : (read : List (Vec ℕ Global)) (file : Vec ℕ Global) (rest : List (List ℕ)) → contents (read ++ file ∷ []) ++ rest ≡ contents read ++ file.items ∷ rest
contents_with read file rest = ap (λ xs. xs ++ rest) (map-append (λ (f : Vec ℕ Global). f.items) read (file ∷ [])) ∙ append_snoc (contents read) file.items rest

-- Where no names are left, what is read is all.
pub whole_at_end : (held : Option Held) (names : List (String Global)) (i : ℕ) (read : List (Vec ℕ Global)) → length names ≤ i →
    ((rest : List (List ℕ)) → AllZip (IsWhole held) (map string_bytes (drop i names)) rest → AllZip (IsWhole held) (map string_bytes names) (contents read ++ rest)) →
    AllZip (IsWhole held) (map string_bytes names) (contents read)
whole_at_end held names i read past others =
    subst (AllZip (IsWhole held) (map string_bytes names)) (append-nil (contents read))
    (others [] (subst (λ (ns : List (String Global)). AllZip (IsWhole held) (map string_bytes ns) []) (sym (drop_all i names past)) tt))

-- a plan after one more call
pub after_next : (n : ℕ) (plan : Option Plan) → after_many (n + 1) plan ≡ after_one (after_many n plan)
after_next n plan = simp unary_clauses refl

-- a plan after a call and then others
pub after_first : (n : ℕ) (plan : Option Plan) → after_many n (after_one plan) ≡ after_many (suc n) plan
after_first zero plan = refl
after_first (suc n) plan = ap after_one (after_first n plan)

pub fails_behind : (n : ℕ) (plan : Option Plan) → FailsAmong n (after_one plan) → FailsAmong (n + 1) plan
fails_behind n plan f = record {
  before = suc f.before;
  among = omega (arith, f.among);
  planned = subst IsPlanned (after_first f.before plan) f.planned;
}
