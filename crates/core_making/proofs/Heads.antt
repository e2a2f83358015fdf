-- Classes with their names, one at a time.
use Rattle.std.proofs.Common.{◌≡◌, ℕ, zero, suc, ◌+◌, ◌<◌, ◌≤◌, List, [], ◌∷◌, ◌++◌, length, drop, get_or, Some, None, refl, sym, ap, ◌∙◌, append_assoc, add-one, drop-cons}
use Rattle.std.specs.Prelude.{slice_get}
use Rattle.std.proofs.lemmas.List.{append-nil, drop_all}
use Rattle.std.proofs.lemmas.Option.{slice_get_within, get_or_from_slice_get}
use Rattle.je_core.specs.declared.program.Head.{Head}
use Rattle.je_core.specs.declared.types.ClassId.{ClassId}
use Rattle.je_ast.specs.Types.{TypeName, primitive, class_type}
use Rattle.je_scopes.specs.Faults.{name_span}
use Rattle.body_typing.specs.Expressions as expressions
use Rattle.class_typing.specs.Classes.{heads_from}
use Rattle.core_making.specs.way.Made.{head}

pub same_span : (t : TypeName) → name_span t ≡ expressions.name_span t
same_span (primitive word dims span) = refl
same_span (class_type q args dims span) = refl

no-classes : (ts : List TypeName) → heads_from ts [] ≡ []
no-classes [] = refl
no-classes (t ∷ ts) = refl

no-type : (ts : List TypeName) (at : ℕ) → slice_get ts at ≡ None → drop at ts ≡ []
no-type [] zero e = refl
no-type [] (suc at) e = refl
no-type (t ∷ ts) zero e = absurd (cc)
no-type (t ∷ ts) (suc at) e = no-type ts at e

module _ (ts : List TypeName) (cs : List ClassId) (old all : List Head) (at : ℕ) (so_far : old ++ heads_from (drop at ts) (drop at cs) ≡ all) where
  pub named_further : (new : List Head) (t : TypeName) (d : ClassId) → slice_get ts at ≡ Some t → at < length cs →
      new ≡ old ++ head (get_or cs at d) t ∷ [] → new ++ heads_from (drop (at + 1) ts) (drop (at + 1) cs) ≡ all
  named_further new t d e within made =
      let there : at < length ts = slice_get_within ts at t e in
      let types : drop at ts ≡ t ∷ drop (suc at) ts = drop-cons ts at t there ∙ ap (λ (u : TypeName). u ∷ drop (suc at) ts) (get_or_from_slice_get ts at t t e) in
      let classes : drop at cs ≡ get_or cs at d ∷ drop (suc at) cs = drop-cons cs at d within in
      ap (λ (n : ℕ). new ++ heads_from (drop n ts) (drop n cs)) (add-one at)
      ∙ ap (λ (hs : List Head). hs ++ heads_from (drop (suc at) ts) (drop (suc at) cs)) made
      ∙ append_assoc old (head (get_or cs at d) t ∷ []) (heads_from (drop (suc at) ts) (drop (suc at) cs))
      ∙ (λ i. old ++ heads_from (sym types i) (sym classes i))
      ∙ so_far

  pub named_types : slice_get ts at ≡ None → old ≡ all
  named_types e =
      sym (append-nil old) ∙ ap (λ (us : List TypeName). old ++ heads_from us (drop at cs)) (sym (no-type ts at e)) ∙ so_far

  pub named_classes : length cs ≤ at → old ≡ all
  named_classes l =
      sym (append-nil old)
      ∙ ap (λ (hs : List Head). old ++ hs) (sym (no-classes (drop at ts)))
      ∙ ap (λ (ds : List ClassId). old ++ heads_from (drop at ts) ds) (sym (drop_all at cs l))
      ∙ so_far
