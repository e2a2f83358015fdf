-- Which of several methods, or constructors, arguments choose (JLS 6.6.1, 15.12.2). There is one phase of the choice,
-- without boxing and without parameters of variable number.
use Rattle.std.specs.Prelude.{ℕ, Bool, true, false, not, ◌&&◌, ◌||◌, List, [], ◌∷◌, filter, Option, Some, None, nat_eq, nat_lt}
use Rattle.std.specs.List.{find, list_all}
use Rattle.je_base.specs.declared.span.Span.{Span}
use Rattle.je_core.specs.declared.program.Flags.{Flags}
use Rattle.je_scopes.specs.Headers.{top_of}
use Rattle.je_scopes.specs.Sites.{Site}
use Rattle.je_scopes.specs.SourceTypes.{SourceType}
use Rattle.source_types.specs.Heads.{ClassHead}
use Rattle.je_typing.specs.declared.fault.TypeRule.{TypeRule}
use Rattle.je_typing.specs.declared.fault.TypeRule.TheVariants.{AmbiguousMethod, NotAccessible}
use Rattle.je_typing.specs.Conversions.{passes}
use Rattle.je_typing.specs.Judged.{Judged, gives, breaks}
use Rattle.overriding.specs.Methods.{is_private}
use Rattle.overriding.specs.Overrides.{is_result_for}

-- A method, or a constructor, that a call may choose: the class that declares it and its place there, what is said of
-- it, and its types with type arguments put in. `declared` is its result without them; `is_abstract`, that it has no
-- body where it is called.
pub record Candidate : Type 0 where
  pub class : ℕ
  pub place : ℕ
  pub flags : Flags
  pub parameters : List SourceType
  pub result : SourceType
  pub declared : SourceType
  pub is_abstract : Bool

-- ---- those that accept arguments of some types: as many, each converted as in a call (JLS 5.3, 15.12.2.2)

abbrev pub all_pass : List ClassHead → List SourceType → List SourceType → Bool
all_pass heads [] [] = true
all_pass heads (t ∷ ts) (u ∷ us) = passes heads t u && all_pass heads ts us
all_pass heads _ _ = false

abbrev pub accepts : List ClassHead → List SourceType → Candidate → Bool
accepts heads types m = all_pass heads types m.parameters

-- ---- those that may be named in a class: private ones in the top-level class alone that they stand in (JLS 6.6.1)

abbrev pub is_accessible : List Site → ℕ → Candidate → Bool
is_accessible sites c m = not (is_private m.flags.access) || nat_eq (top_of sites c) (top_of sites m.class)

-- ---- the most specific ones: each other one accepts what they accept (JLS 15.12.2.5)

abbrev pub is_more_specific : List ClassHead → Candidate → Candidate → Bool
is_more_specific heads m n = all_pass heads m.parameters n.parameters

abbrev pub is_most_specific : List ClassHead → List Candidate → Candidate → Bool
is_most_specific heads ms m = list_all (is_more_specific heads m) ms

abbrev pub most_specific : List ClassHead → List Candidate → List Candidate
most_specific heads ms = filter (is_most_specific heads ms) ms

-- ---- the preferred one among those, which have the same parameter types: the only one with a body; where none has a
-- body, the first, by class and then by place, of those whose result is that of each other one, or below it

abbrev pub has_body : Candidate → Bool
has_body m = not m.is_abstract

abbrev pub has_result_for : List ClassHead → Candidate → Candidate → Bool
has_result_for heads m n = is_result_for heads m.result n.result

abbrev pub has_least_result : List ClassHead → List Candidate → Candidate → Bool
has_least_result heads ms m = list_all (has_result_for heads m) ms

abbrev pub stands_before : Candidate → Candidate → Bool
stands_before m n = nat_lt m.class n.class || nat_eq m.class n.class && nat_lt m.place n.place

-- none of these stands before it
abbrev pub is_first : List Candidate → Candidate → Bool
is_first ms m = list_all (λ n. not (stands_before n m)) ms

abbrev pub first_of : List Candidate → Option Candidate
first_of ms = find (is_first ms) ms

-- by those of them that have a body
abbrev pub preferred_by : List ClassHead → List Candidate → List Candidate → Option Candidate
preferred_by heads ms [] = first_of (filter (has_least_result heads ms) ms)
preferred_by heads ms (m ∷ []) = Some m
preferred_by heads ms _ = None

abbrev pub preferred : List ClassHead → List Candidate → Option Candidate
preferred heads ms = preferred_by heads ms (filter has_body ms)

-- ---- what a set of them comes to

pub data Choice : Type 0 where
  none_accepts : Choice
  none_accessible : Choice
  unclear : Choice
  one : Candidate → Choice

abbrev pub or_unclear : Option Candidate → Choice
or_unclear None = unclear
or_unclear (Some m) = one m

-- of those that accept the arguments and may be named
abbrev pub choice_among : List ClassHead → List Candidate → Choice
choice_among heads [] = none_accessible
choice_among heads ms = or_unclear (preferred heads (most_specific heads ms))

-- of those that accept the arguments: one that may not be named counts only where none may be
abbrev pub choice_for : List ClassHead → List Site → ℕ → List Candidate → Choice
choice_for heads sites c [] = none_accepts
choice_for heads sites c ms = choice_among heads (filter (is_accessible sites c) ms)

-- of all, for arguments of these types, in a class
unfoldable pub choice : List ClassHead → List Site → ℕ → List Candidate → List SourceType → Choice
choice heads sites c ms types = choice_for heads sites c (filter (accepts heads types) ms)

-- the one, or the fault; which one where none accepts the arguments is told by what is called
unfoldable pub chosen : TypeRule → Span → Choice → Judged Candidate
chosen rule at none_accepts = breaks rule at
chosen rule at none_accessible = breaks NotAccessible at
chosen rule at unclear = breaks AmbiguousMethod at
chosen rule at (one m) = gives m
