-- The law on expressions (JLS 15): what the walk over one gives fits, where what it names and makes stands in the
-- core program.
use Rattle.std.specs.Prelude.{◌≡◌, ℕ, ◌+◌, ◌<◌, List, Some}
use Rattle.je_base.specs.declared.span.Span.{Span}
use Rattle.je_core.specs.Core.{CoreProgram}
use Rattle.je_ast.specs.Trees.{Expression, Expressions}
use Rattle.je_ast.specs.Trees as tree
use Rattle.je_ast.specs.Types.{TypeName}
use Rattle.je_fitting.specs.Expressions.{Body, CapturesFit}
use Rattle.je_scopes.specs.SourceTypes.{SourceType}
use Rattle.source_types.specs.Erasure.{class_numbered}
use Rattle.header_typing.specs.Supers.{class_in}
use Rattle.je_typing.specs.Judged.{gives}
use Rattle.je_typing.specs.Typed.{TypedNode}
use Rattle.name_typing.specs.Program.{Program}
use Rattle.body_types.specs.BodyTypes.{body_type}
use Rattle.call_typing.specs.Constructors.{constructor_for}
use Rattle.call_typing.specs.Creations.{made_of}
use Rattle.call_typing.specs.Overloads.{Candidate}
use Rattle.body_typing.specs.Expressions.{Known, Purpose, anonymous_at, anonymous_type, assigned, class_or_zero}
use Rattle.body_typing.specs.Expressions.{expression, initial, updated, values}
use Rattle.body_typing.specs.FinalVariables.{Scope}
use Rattle.typing_laws.specs.Fitting.{Gives}
use Rattle.fitting_laws.specs.Creations.{AnonymousStands, CanBeMade, HandsOn}
use Rattle.fitting_laws.specs.Methods.{HasDefault, HasMethods}
use Rattle.fitting_laws.specs.Names.{IsTarget, ScopeStands}
use Rattle.fitting_laws.specs.Represented.{NameIsReached, Represents}
use Rattle.fitting_laws.specs.Sound.{IsSound}
use Rattle.fitting_laws.specs.Values.{IsValue}

module _ (p : Program) (k : Known) (program : CoreProgram) (body : Body) (s : Scope) where
  -- a class that is named behind `new`
  abbrev pub MadeStands : TypeName → Type 0
  MadeStands t = (made : SourceType) → body_type p s.place.here t ≡ gives made →
      CanBeMade p program body (k.captures s.place (class_or_zero made)) made

  -- a class whose body stands behind `new`, by that word, with its type and arguments
  pub record MadeWithBody (word : Span) (t : TypeName) (es : Expressions) : Type 0 where
    pub class : AnonymousStands p program (anonymous_at p word)
    pub sound : IsSound program p.heads 255 (anonymous_type p word t)
    pub default : (d : ℕ) → class_in (made_of p (anonymous_type p word t)) ≡ Some d → HasDefault p program d
    pub hands_on : (args : List TypedNode) (at : Span) (m : Candidate) → values p k s es ≡ gives args →
        constructor_for p s.place.here.class (made_of p (anonymous_type p word t)) at args ≡ gives m →
        HandsOn p program (anonymous_at p word) m
    pub captures : CapturesFit program body (class_numbered (anonymous_at p word))
        (k.captures s.place (anonymous_at p word))

  abbrev pub count : Expressions → ℕ
  count tree.no_expressions = 0
  count (tree.more_expressions e es) = count es + 1

  -- what an expression names and makes is there; a new array has a length, or a dimension
  abbrev mutual
    pub Stands : Expression → Type 0
    Stands (tree.literal l span) = Unit {0}
    Stands (tree.name id) = NameIsReached p program body s.place id.name
    Stands (tree.this span) = Unit {0}
    Stands (tree.outer_this q word span) = Unit {0}
    Stands (tree.parens e span) = Stands e
    Stands (tree.select e id span) = Stands e
    Stands (tree.super_select word id span) = Unit {0}
    Stands (tree.call id es span) = AllStand es
    Stands (tree.call_on e id es span) = Stands e × AllStand es
    Stands (tree.super_call word id es span) = AllStand es
    Stands (tree.index e i span) = Stands e × Stands i
    Stands (tree.new_object word t es span) = MadeStands t × AllStand es
    Stands (tree.new_anonymous word t es inner span) = MadeWithBody word t es × AllStand es
    Stands (tree.new_array t es dims span) = (0 < count es) × AllStand es
    Stands (tree.new_array_of t dims e span) = (0 < dims) × Stands e
    Stands (tree.array_init es span) = AllStand es
    Stands (tree.cast t e span) = Stands e
    Stands (tree.prefix o at e span) = Stands e
    Stands (tree.postfix o at e span) = Stands e
    Stands (tree.binary o at e f span) = Stands e × Stands f
    Stands (tree.instance_of at e t span) = Stands e
    Stands (tree.conditional at c e f span) = Stands c × Stands e × Stands f
    Stands (tree.assign o at e f span) = Stands e × Stands f

    pub AllStand : Expressions → Type 0
    AllStand tree.no_expressions = Unit {0}
    AllStand (tree.more_expressions e es) = Stands e × AllStand es

  -- the type of the variable that is initialized
  abbrev pub PurposeStands : Purpose → Type 0
  PurposeStands (initial t) = IsSound program p.heads 255 t
  PurposeStands purpose = Unit {0}

  -- a value, or what is assigned
  abbrev pub Comes : Purpose → TypedNode → Type 0
  Comes assigned t = IsTarget p program body k.is_blank s t
  Comes updated t = IsTarget p program body k.is_blank s t
  Comes purpose t = IsValue program body p.heads t

-- JLS 15
abbrev pub ExpressionsFit : Type 0
ExpressionsFit = (p : Program) (k : Known) (program : CoreProgram) (body : Body) (s : Scope) → Represents p program →
    HasMethods p program → ScopeStands p program body k.is_blank s → (purpose : Purpose) (e : Expression) →
    PurposeStands p k program body s purpose → Stands p k program body s e →
    Gives (Comes p k program body s purpose) (expression p k s purpose e)
