-- Parameters, one after the other beside their types.
use Rattle.std.proofs.Common.{◌≡◌, ℕ, ◌+◌, ◌<◌, ◌≤◌, List, [], ◌∷◌, length, drop, get_or, map, refl, sym, ap, ◌∙◌}
use Rattle.std.proofs.lemmas.List.{at_drop_all, at_drop_more}
use Rattle.je_ast.specs.declared.decl.Formal.{Formal}
use Rattle.je_ast.specs.Types.{FormalParameter, formal_view}
use Rattle.name_types.specs.declared.types.SrcTy.{SrcTy}
use Rattle.name_types.specs.View.{shown}
use Rattle.je_typing.specs.declared.fault.Refusal.{Refusal}
use Rattle.je_typing.specs.Answers.{IsFault}
use Rattle.je_typing.specs.Judged.{Judged, bind, gives}
use Rattle.je_typing.proofs.Walks.{bind_faults, bind_gives}
use Rattle.written_types.proofs.Walking.{fault_of}
use Rattle.body_typing.specs.FinalVariables.{Scope}
use Rattle.body_typing.specs.Bodies.{Progress}
use Rattle.body_typing.specs.LocalVariables.{new_name}
use Rattle.class_typing.specs.Members.{Begun}
use Rattle.member_forms.specs.declared.walk.ClassWalk.{ClassWalk}
use Rattle.member_forms.specs.Seen.{program_of}
use Rattle.member_forms.specs.Walks.{begun, parameters}
use Rattle.member_forms.specs.way.Parameters.{progress_behind, scope_behind}

module _ (w : ClassWalk) (fs : List Formal) (i : ℕ) (s : Scope) (pr : Progress) (left : List SrcTy) (whole : Judged Begun)
    (met : whole ≡ parameters w s pr (map formal_view (drop i fs)) (map shown left)) where
  module _ (f : Formal) (t : SrcTy) (rest : List SrcTy) (first : left ≡ t ∷ rest) (within : i < length fs) (is : f ≡ get_or fs i f) where
    abbrev further : Judged Begun
    further =
        parameters w (scope_behind s pr (formal_view f) (shown t)) (progress_behind (program_of w).heads pr (formal_view f) (shown t)) (map formal_view (drop (i + 1) fs))
        (map shown rest)

    here : whole ≡ bind (new_name s f.name) (λ (done : Unit {0}). further)
    here =
        met
        ∙ ap (λ (ts : List SrcTy). parameters w s pr (map formal_view (drop i fs)) (map shown ts)) first
        ∙ at_drop_more (λ (gs : List Formal). parameters w s pr (map formal_view gs) (map shown (t ∷ rest))) fs i f within
        ∙ ap (λ (g : Formal). parameters w s pr (map formal_view (g ∷ drop (i + 1) fs)) (map shown (t ∷ rest))) (sym is)

    pub parameter_on : (done : Unit {0}) → new_name s f.name ≡ gives done → whole ≡ further
    parameter_on done g = here ∙ bind_gives (new_name s f.name) (λ (d : Unit {0}). further) done g

    pub parameter_fails : (r : Refusal) → IsFault (new_name s f.name) r → IsFault whole r
    parameter_fails r h = fault_of here (bind_faults (new_name s f.name) (λ (d : Unit {0}). further) r h)

  no_types : (gs : List FormalParameter) → parameters w s pr gs [] ≡ gives (begun s pr)
  no_types [] = refl
  no_types (g ∷ gs) = refl

  pub no_types_left : left ≡ [] → whole ≡ gives (begun s pr)
  no_types_left e =
      met ∙ ap (λ (ts : List SrcTy). parameters w s pr (map formal_view (drop i fs)) (map shown ts)) e ∙ no_types (map formal_view (drop i fs))

  pub no_parameters_left : length fs ≤ i → whole ≡ gives (begun s pr)
  no_parameters_left past = met ∙ at_drop_all (λ (gs : List Formal). parameters w s pr (map formal_view gs) (map shown left)) fs i past
