-- The clauses of a `try`, one after the other.
use Rattle.std.proofs.Common.{◌≡◌, List, [], ◌∷◌, ◌++◌, refl, sym, ap, ◌∙◌, subst}
use Rattle.std.proofs.lemmas.List.{append_assoc, append-nil}
use Rattle.je_core.specs.declared.types.ClassId.{ClassId}
use Rattle.je_core.specs.Core.{CoreCatch, CoreCatches, catch, catch_list_of, core_catches, more_catches, no_catches}
use Rattle.source_types.specs.Heads.{ClassHead}
use Rattle.je_typing.specs.declared.fault.Refusal.{Refusal}
use Rattle.je_typing.specs.Answers.{IsFault}
use Rattle.je_typing.specs.Judged.{Judged, bind, gives, faulty}
use Rattle.je_typing.proofs.Walks.{bind_faults, bind_gives}
use Rattle.statement_steps.specs.Thrown.{caught_class}
use Rattle.body_typing.specs.FinalVariables.{Scope}
use Rattle.body_typing.specs.Catches.{Clause, clauses}
use Rattle.body_typing.specs.LocalVariables.{new_name}
use Rattle.statement_forms.specs.way.Clauses.{clause}
use Rattle.statement_forms.proofs.Following.{bind_behind, bind_kept}

same-catches : (cs : CoreCatches) → core_catches (catch_list_of cs) ≡ cs
same-catches no_catches = refl
same-catches (more_catches c cs) = ap (more_catches c) (same-catches cs)

-- what is made so far, and the rest
abbrev joined : List CoreCatch → CoreCatches → Judged CoreCatches
joined made rest = gives (core_catches (made ++ catch_list_of rest))

-- two steps and what they give are a step of their own
two-steps : {A B C D : Type 0} (m : Judged A) (n : Judged B) (f : B → C) (g : C → Judged D) →
    bind (bind m (λ (a : A). bind n (λ (b : B). gives (f b)))) g ≡ bind m (λ (a : A). bind n (λ (b : B). g (f b)))
unfolding bind
two-steps (gives a) (gives b) f g = refl
two-steps (gives a) (faulty fault) f g = refl
two-steps (faulty fault) n f g = refl

module _ (heads : List ClassHead) (s : Scope) where
  abbrev in_front : List Clause → CoreCatch → Judged CoreCatches
  in_front cs x = bind (clauses heads s cs) (λ (rest : CoreCatches). gives (more_catches x rest))

  by-clause : (c : Clause) (cs : List Clause) → bind (clause heads s c) (in_front cs) ≡ clauses heads s (c ∷ cs)
  unfolding clause
  by-clause c cs = two-steps (new_name s c.name) (caught_class heads c.name_span c.type) (λ (class : ClassId). catch c.number class c.name_span c.body) (in_front cs)

  -- the clauses that are left, behind those that are made
  abbrev pub left_behind : List CoreCatch → List Clause → Judged CoreCatches
  left_behind made cs = bind (clauses heads s cs) (joined made)

  pub clauses_begin : (cs : List Clause) → left_behind [] cs ≡ clauses heads s cs
  clauses_begin cs = bind_kept (clauses heads s cs) (joined []) (λ (rest : CoreCatches). ap gives (same-catches rest))

  pub clause_made : (made : List CoreCatch) (c : Clause) (cs : List Clause) (x : CoreCatch) → clause heads s c ≡ gives x →
      left_behind (made ++ x ∷ []) cs ≡ left_behind made (c ∷ cs)
  unfolding bind
  clause_made made c cs x e =
      (λ i. bind (clauses heads s cs) (λ (rest : CoreCatches). gives (core_catches (append_assoc made (x ∷ []) (catch_list_of rest) i))))
      ∙ sym (bind_behind (clauses heads s cs) (λ (rest : CoreCatches). gives (more_catches x rest)) (joined made))
      ∙ ap (λ (m : Judged CoreCatches). bind m (joined made)) (sym (bind_gives (clause heads s c) (in_front cs) x e) ∙ by-clause c cs)

  pub clause_fails : (made : List CoreCatch) (c : Clause) (cs : List Clause) (whole : Judged CoreCatches) (r : Refusal) → left_behind made (c ∷ cs) ≡ whole →
      IsFault (clause heads s c) r → IsFault whole r
  clause_fails made c cs whole r is h =
      subst (λ (m : Judged CoreCatches). IsFault m r) is
      (bind_faults (clauses heads s (c ∷ cs)) (joined made) r (subst (λ (m : Judged CoreCatches). IsFault m r) (by-clause c cs)
      (bind_faults (clause heads s c) (in_front cs) r h)))

  pub clauses_end : (made : List CoreCatch) → left_behind made [] ≡ gives (core_catches made)
  unfolding bind
  clauses_end made = ap (λ (cs : List CoreCatch). gives (core_catches cs)) (append-nil made)
