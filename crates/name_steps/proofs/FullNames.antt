-- A name that means nothing so far, with one part more.
use Rattle.std.proofs.Common.{◌≡◌, ℕ, List, [], ◌∷◌, ◌++◌, sym, ap, ◌∙◌}
use Rattle.std.specs.Prelude.{Option}
use Rattle.je_base.specs.declared.span.Span.{Span}
use Rattle.je_ast.specs.declared.name.Identifier.{Identifier}
use Rattle.je_scopes.specs.Source.{library_class}
use Rattle.name_typing.specs.Program.{Place, Program}
use Rattle.name_typing.specs.Qualified.{a_beginning, full_name_before, select_before}

pub one_part_more : (p : Program) (place : Place) (id : Identifier) (span : Span) (first : Identifier) (further whole parts : List Identifier) (o : Option ℕ) →
    whole ≡ further ++ id ∷ [] → parts ≡ first ∷ whole → o ≡ library_class p.source.texts parts →
    select_before p place id span (a_beginning first further) ≡ full_name_before first whole o
unfolding select_before
one_part_more p place id span first further whole parts o e h k =
    ap (λ (w : List Identifier). full_name_before first w (library_class p.source.texts (first ∷ w))) (sym e)
    ∙ ap (λ (ps : List Identifier). full_name_before first whole (library_class p.source.texts ps)) (sym h)
    ∙ ap (full_name_before first whole) (sym k)
