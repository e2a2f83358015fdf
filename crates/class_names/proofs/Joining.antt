-- Binary names from the outermost class inwards.
use Rattle.std.proofs.Common.{◌≡◌, ℕ, zero, suc, ◌+◌, ◌-◌, ◌<◌, ◌≤◌, List, [], ◌∷◌, ◌++◌, Some, None, refl, sym, ap, ◌∙◌, arith}
use Rattle.std.proofs.lemmas.List.{append_assoc, append-nil}
use Rattle.je_core.specs.declared.types.ClassId.{ClassId}
use Rattle.je_core.specs.Core.{CoreProgram}
use Rattle.je_classes.specs.Hierarchy.{class_at}
use Rattle.class_names.specs.BinaryNames.{binary_text, inner_text, round_within, simple_text, within_in}

-- what some classes add, of which the last is the outermost
abbrev pub pieces : CoreProgram → List (List ℕ) → List ClassId → List ℕ
pieces program texts [] = []
pieces program texts (c ∷ cs) = pieces program texts cs ++ inner_text program texts c

pub pieces_last : (program : CoreProgram) (texts : List (List ℕ)) (cs : List ClassId) (c : ClassId) →
    pieces program texts (cs ++ c ∷ []) ≡ inner_text program texts c ++ pieces program texts cs
pieces_last program texts [] c = sym (append-nil (inner_text program texts c))
pieces_last program texts (d ∷ cs) c =
    ap (λ ts. ts ++ inner_text program texts d) (pieces_last program texts cs c) ∙ append_assoc (inner_text program texts c) (pieces program texts cs) (inner_text program texts d)

pub outermost_first : (program : CoreProgram) (texts : List (List ℕ)) (cs : List ClassId) (c : ClassId) →
    binary_text program texts (cs ++ c ∷ []) ≡ simple_text program texts c ++ pieces program texts cs
outermost_first program texts [] c = sym (append-nil (simple_text program texts c))
outermost_first program texts (d ∷ []) c = refl
outermost_first program texts (d ∷ e ∷ cs) c =
    ap (λ ts. ts ++ inner_text program texts d) (outermost_first program texts (e ∷ cs) c) ∙
    append_assoc (simple_text program texts c) (pieces program texts (e ∷ cs)) (inner_text program texts d)

-- the way outwards ends, or goes on

pub way_ends : (program : CoreProgram) (n : ℕ) (c : ClassId) (cs : List ClassId) → 0 < n → within_in (class_at program c) ≡ None →
    cs ++ c ∷ [] ≡ cs ++ round_within program n c
way_ends program zero c cs l e = absurd (omega arith)
way_ends program (suc n) c cs l e = rw e refl

pub way_on : (program : CoreProgram) (n m : ℕ) (c d : ClassId) (cs : List ClassId) → m < n → within_in (class_at program c) ≡ Some d →
    (cs ++ c ∷ []) ++ round_within program (n - (m + 1)) d ≡ cs ++ round_within program (n - m) c
way_on program n m c d cs l e =
    let s : n - m ≡ suc (n - (m + 1)) = omega arith in
    rw s (rw e (append_assoc cs (c ∷ []) (round_within program (n - (m + 1)) d)))

pub way_cut : (program : CoreProgram) (n m : ℕ) (c : ClassId) (cs : List ClassId) → n ≤ m → cs ++ round_within program (n - m) c ≡ cs
way_cut program n m c cs l = let s : n - m ≡ 0 = omega arith in rw s (append-nil cs)

-- the next class inwards
pub inwards : (program : CoreProgram) (texts : List (List ℕ)) (name : List ℕ) (before after : List ClassId) (c : ClassId) → before ≡ after ++ c ∷ [] →
    (name ++ inner_text program texts c) ++ pieces program texts after ≡ name ++ pieces program texts before
inwards program texts name before after c e =
    rw e (append_assoc name (inner_text program texts c) (pieces program texts after) ∙ ap (λ ts. name ++ ts) (sym (pieces_last program texts after c)))
