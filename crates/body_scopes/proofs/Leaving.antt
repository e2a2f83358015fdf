-- What is left when a walk goes back.
use Rattle.std.proofs.Common.{◌≡◌, ℕ, ◌+◌, ◌-◌, List, drop, length, map, sym, ap, ◌∙◌, arith}
use Rattle.std.proofs.lemmas.List.{drop-map, drop_at, length-append}
use Rattle.source_subtypes.proofs.Climbing.{length-mapped}
use Rattle.name_typing.specs.Program.{LocalVariable}
use Rattle.body_typing.specs.FinalVariables.{Scope}
use Rattle.body_typing.specs.Bodies.{in_frame, with_classes_of}
use Rattle.body_scopes.specs.Extending.{Extends, IsEndOf}

pub end_is_left : {A : Type 0} (xs ys left : List A) (kept : ℕ) → IsEndOf xs ys → kept ≡ length xs → left ≡ drop (length ys - kept) ys → left ≡ xs
end_is_left xs ys left kept (front, e) k l =
    let count : length ys ≡ length front + length xs = ap length e ∙ length-append front xs in
    let gone : length front ≡ length ys - kept = omega (arith, count, k) in
    l ∙ ap (drop (length ys - kept)) e ∙ drop_at front xs (length ys - kept) gone

pub mapped_end_is_left : {A B : Type 0} (see : A → B) (xs : List B) (ys left : List A) (kept : ℕ) → IsEndOf xs (map see ys) → kept ≡ length xs →
    left ≡ drop (length ys - kept) ys → map see left ≡ xs
mapped_end_is_left see xs ys left kept e k l =
    end_is_left xs (map see ys) (map see left) kept e k
    (ap (map see) l ∙ sym (drop-map see (length ys - kept) ys) ∙ ap (λ (n : ℕ). drop (n - kept) (map see ys)) (sym (length-mapped see ys)))

abbrev with_locals : List LocalVariable → List ℕ → Scope → Scope
with_locals vs ns s = record (in_frame (record (s.place.here) { locals = vs }) s) { given = ns }

abbrev with_classes : List ℕ → Scope → Scope
with_classes cs s = in_frame (record (s.place.here) { local_classes = cs }) s

pub locals_left : (before after : Scope) (vs : List LocalVariable) (ns : List ℕ) → Extends before after → vs ≡ before.place.here.locals → ns ≡ before.given →
    with_locals vs ns after ≡ with_classes_of after before
locals_left before after vs ns e v n = (λ i. with_locals (v i) (n i) after) ∙ ap (with_classes_of after) e.kept

pub classes_left : (before after between : Scope) (cs : List ℕ) → between ≡ with_classes_of after before → cs ≡ before.place.here.local_classes →
    with_classes cs between ≡ before
classes_left before after between cs b c = λ i. with_classes (c i) (b i)
