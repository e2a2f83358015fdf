-- What stands before a point, name by name, and a literal behind a minus.
use Rattle.std.proofs.Common.{◌≡◌, Option, Some, None, refl, ap, subst}
use Rattle.je_base.specs.declared.span.Span.{Span}
use Rattle.je_ast.specs.declared.name.Identifier.{Identifier}
use Rattle.je_typing.specs.declared.fault.Refusal.{Refusal}
use Rattle.je_typing.specs.Answers.{IsFault}
use Rattle.je_typing.specs.Judged.{Judged, gives, bind}
use Rattle.je_typing.specs.Typed.{TypedNode}
use Rattle.je_typing.proofs.Walks.{bind_faults, bind_gives}
use Rattle.name_typing.specs.Program.{Place, Program}
use Rattle.name_typing.specs.Qualified.{Qualifier, a_value, select_before}
use Rattle.body_typing.specs.Expressions.{Known, before, one_more, or_else, value}
use Rattle.body_typing.specs.FinalVariables.{Scope}

module _ (p : Program) (k : Known) (s : Scope) where
  pub one_more_gives : (id : Identifier) (span : Span) (n : Option (Judged Qualifier)) (q r : Qualifier) →
      n ≡ Some (gives q) → select_before p s.place id span q ≡ gives r → one_more p k s id span n ≡ Some (gives r)
  unfolding bind
  one_more_gives id span n q r e h = rw e (ap Some h)

  pub none_more : (id : Identifier) (span : Span) (n : Option (Judged Qualifier)) → n ≡ None → one_more p k s id span n ≡ None
  none_more id span n e = rw e refl

  pub one_more_faults : (id : Identifier) (span : Span) (n : Option (Judged Qualifier)) (q : Qualifier) (r : Refusal) (other : Judged TypedNode) →
      n ≡ Some (gives q) → IsFault (select_before p s.place id span q) r → IsFault (before p k s (one_more p k s id span n) other) r
  unfolding bind
  one_more_faults id span n q r other e h = rw e h

  -- where the step is judged at a place that is the scope's
  pub faults_at : (id : Identifier) (span : Span) (n : Option (Judged Qualifier)) (q : Qualifier) (r : Refusal) (other : Judged TypedNode) (at : Place) →
      at ≡ s.place → n ≡ Some (gives q) → IsFault (select_before p at id span q) r → IsFault (before p k s (one_more p k s id span n) other) r
  faults_at id span n q r other at same e h = one_more_faults id span n q r other e (subst (λ (x : Place). IsFault (select_before p x id span q) r) same h)

  pub first_faults : (id : Identifier) (span : Span) (n : Option (Judged Qualifier)) (r : Refusal) (other : Judged TypedNode) →
      IsFault (before p k s n other) r → IsFault (before p k s (one_more p k s id span n) other) r
  first_faults id span None r other h = h
  first_faults id span (Some q) r other h = bind_faults q _ r h

  pub names_stand : (n : Option (Judged Qualifier)) (q : Qualifier) (other : Judged TypedNode) → n ≡ Some (gives q) → before p k s n other ≡ gives q
  names_stand n q other e = rw e refl

  pub value_stands : (n : Option (Judged Qualifier)) (t : TypedNode) (other : Judged TypedNode) → n ≡ None → value other ≡ gives t →
      before p k s n other ≡ gives (a_value t)
  value_stands n t other e h = rw e (bind_gives (value other) (λ u. gives (a_value u)) t h)

  pub value_faults : (n : Option (Judged Qualifier)) (r : Refusal) (other : Judged TypedNode) → n ≡ None → IsFault (value other) r →
      IsFault (before p k s n other) r
  value_faults n r other e h = rw e (bind_faults (value other) (λ u. gives (a_value u)) r h)

pub ruleset further = (one_more_gives, none_more, one_more_faults, first_faults)

pub ruleset before_points = (names_stand, value_stands, value_faults)

pub literal_stands : (n : Option (Judged TypedNode)) (t : TypedNode) (other : Judged TypedNode) → n ≡ Some (gives t) → or_else n other ≡ gives t
literal_stands n t other e = rw e refl

pub no_literal : (n : Option (Judged TypedNode)) (j other : Judged TypedNode) → n ≡ None → other ≡ j → or_else n other ≡ j
no_literal n j other e h = rw e h

pub operand_faults : (n : Option (Judged TypedNode)) (r : Refusal) (other : Judged TypedNode) → n ≡ None → IsFault other r → IsFault (or_else n other) r
operand_faults n r other e h = rw e h

pub ruleset literals = (literal_stands, no_literal, operand_faults)
