-- Premises that are met: a body round which no other one stands, and in which nothing is met that makes or captures, stands
-- in a core program that has the types that are written in it. So does one that uses its own locals alone.
use Rattle.std.proofs.Common.{◌≡◌, ℕ, suc, List, [], ◌∷◌, Option, Some, None, sym, ap, ◌∙◌, subst, arith}
use Rattle.std.specs.Prelude.{true, false}
use Rattle.std.proofs.lemmas.Option.{none-some}
use Rattle.je_base.specs.declared.span.NameId.{NameId}
use Rattle.je_core.specs.Core.{CoreProgram}
use Rattle.je_ast.specs.Types.{QualifiedName, TypeName, class_type, primitive}
use Rattle.je_classes.specs.Members.{Found, first as at_first, nothing, one, several}
use Rattle.je_fitting.specs.Expressions.{Body}
use Rattle.je_scopes.specs.Looks.{Look}
use Rattle.je_scopes.specs.Looks as look
use Rattle.je_scopes.specs.SourceTypes.{SourceType, SourceTypes, count}
use Rattle.source_types.specs.Heads.{head_at}
use Rattle.header_typing.specs.WrittenTypes.{bounded, is_in_limit}
use Rattle.je_typing.specs.declared.fault.TypeRule.TheVariants.{BadArray, NotAccessible, UnknownName}
use Rattle.je_typing.specs.Judged.{Judged, gives}
use Rattle.name_typing.specs.Program.{Frame, LocalVariable, Program}
use Rattle.name_typing.specs.Variables.{Variable, a_local, field_found, local_named, local_or, no_variable, or_further, outwards, variable_named}
use Rattle.body_types.specs.BodyTypes.{body_type, body_types, look_at, may_be_named, takes, type_at, type_of_look}
use Rattle.call_typing.specs.Creations.{is_enum_in}
use Rattle.body_typing.specs.Bodies.{class_met, met_by, with_local}
use Rattle.body_typing.specs.Expressions.{Known, class_of_look, class_or_zero}
use Rattle.body_typing.specs.FinalVariables.{Scope}
use Rattle.body_typing.specs.Mentions.{Mention, made, made_with_body, named}
use Rattle.typing_laws.specs.Fitting.{Gives}
use Rattle.fitting_laws.specs.Creations.{CanBeMade}
use Rattle.fitting_laws.specs.Represented.{NameIsReached, Represents}
use Rattle.fitting_laws.specs.Sound.{IsSound, sound_variable}
use Rattle.fitting_laws.specs.Walk.{MadeStands}
use Rattle.fitting_laws.proofs.Gives.{behind, behind-check}
use Rattle.fitting_laws.proofs.Instances.{variable-there}
use Rattle.body_laws.specs.Bodies.{BodyStands, CanBeMentioned, IsAlike, IsAmong, IsInBody, MentionStands, but_constant, same}
use Rattle.body_laws.specs.Written.{IsMade}
use Rattle.body_laws.proofs.Walk.{any}

-- ---- no local is further out than the body

depth : Variable → ℕ
depth (a_local n v) = n
depth _ = 0

not-far : (o : Option LocalVariable) (f : Found) (n : ℕ) (v : LocalVariable) → or_further (local_or 0 o (field_found 0 f)) no_variable ≡ a_local (suc n) v → ⊥
unfolding depth
not-far (Some w) f n v e = let z : 0 ≡ suc n = ap depth e in omega (arith, z)
not-far None nothing n v e = absurd cc
not-far None (one m) n v e = absurd cc
not-far None several n v e = absurd cc

gives-it : {A : Type 0} (P : A → Type 0) (j : Judged A) (a : A) → Gives P j → j ≡ gives a → P a
gives-it P j a h e = subst (Gives P) e h

module _ (p : Program) (k : Known) (q : CoreProgram) (body : Body) (start : Scope) (represents : Represents p q) (alone : start.place.round ≡ []) where
  InBody : Scope → Type 0
  InBody s = IsInBody p k q body start s

  reached : (s : Scope) (x : NameId) → IsInBody p k q body start s → NameIsReached p q body s.place x
  unfolding variable_named
  reached s x h n v e = absurd (not-far (local_named s.place.here.locals x) _ n v (ap (λ (fs : List Frame). outwards p 0 x (s.place.here ∷ fs)) (sym (h.within.round ∙ alone)) ∙ e))

  -- behind `new` stands a type variable, which the whole refuses
  variable-made : (s : Scope) (n : QualifiedName) (l : Look) (ts : SourceTypes) (dims count : ℕ) → dims ≡ 0 → takes p s.place.here l count ≡ true → IsAmong (class_met p s (class_of_look l)) []
      → CanBeMade p q body (k.captures s.place (class_or_zero (type_of_look p s.place.here l ts dims))) (type_of_look p s.place.here l ts dims)
  variable-made s n (look.a_class c) ts dims count flat h among = elim (among _ at_first) [ ]
  variable-made s n (look.a_variable c at) ts dims count flat h among = record {
    sound = sound_variable (variable-there q p.heads represents.heads represents.sound c at) (omega (arith, flat));
    flat = flat;
    default = λ d e i. absurd (none-some d e);
    handed_over = λ d e. absurd (none-some d e);
  }
  variable-made s n look.nothing ts dims count flat h among = absurd cc
  variable-made s n look.waits ts dims count flat h among = absurd cc
  variable-made s n look.unclear ts dims count flat h among = absurd cc

  Made : Scope → SourceType → Type 0
  Made s t = CanBeMade p q body (k.captures s.place (class_or_zero t)) t

  made-stands : (s : Scope) (t : TypeName) → IsMade t → IsAmong (met_by p s (made t)) [] → MadeStands p k q body s t
  unfolding Made
  made-stands s (primitive w dims span) m among t e = elim m [ ]
  made-stands s (class_type n args dims span) flat among t e = gives-it (Made s) (body_type p s.place.here (class_type n args dims span)) t
      (behind (λ ts. Unit {0}) (Made s) (body_types p s.place.here args) _ (any (body_types p s.place.here args)) (λ ts _.
      behind-check (Made s) UnknownName n.span (takes p s.place.here (look_at p s.place.here n.parts) (count args)) _ (λ h.
      behind (λ u. Unit {0}) (Made s) (bounded p.heads (type_at p s.place.here n ts dims) args) _ (any (bounded p.heads (type_at p s.place.here n ts dims) args)) (λ u _.
      behind-check (Made s) NotAccessible n.span (may_be_named p s.place.here n.parts) _ (λ _.
      behind-check (Made s) BadArray span (is_in_limit dims) (gives (type_at p s.place.here n ts dims)) (λ _.
      variable-made s n (look_at p s.place.here n.parts) ts dims (count args) flat h among)))))) e

  mention-stands : (s : Scope) (m : Mention) → InBody s → CanBeMentioned m → IsAmong (met_by p s m) [] → MentionStands p k q body s m
  unfolding InBody
  mention-stands s (named id) h can among = reached s id.name h
  mention-stands s (made t) h can among = made-stands s t can among
  mention-stands s (made_with_body word t es) h can among = elim (among _ at_first) [ ]

  -- a local's constant says nothing of what is made, nor of locals further out
  alike-stands : (other s : Scope) (m : Mention) → IsAlike other s → InBody s → CanBeMentioned m → IsAmong (met_by p other m) [] → MentionStands p k q body s m
  unfolding InBody
  alike-stands other _ m same h can among = mention-stands other m h can among
  alike-stands _ _ (named id) (but_constant s is_given v c) h can among = reached (with_local is_given v s) id.name h
  alike-stands _ _ (made t) (but_constant s is_given v c) h can among = mention-stands (with_local is_given v s) (made t) h can among
  alike-stands _ _ (made_with_body word t es) (but_constant s is_given v c) h can among = elim (among _ at_first) [ ]

  -- where types that are written in the body are sound, and there is no enum
  body-stands : ((s : Scope) (t : TypeName) (u : SourceType) → InBody s → body_type p s.place.here t ≡ gives u → IsSound q p.heads 255 u) → ((c : ℕ) → is_enum_in (head_at p.heads c) ≡ false) → BodyStands p k q body start []
  unfolding InBody
  body-stands types none = record {
    mentions = alike-stands;
    types = types;
    classes = λ c s i. elim i [ ];
    enums = λ c e. absurd (let z : true ≡ false = sym e ∙ none c in cc);
  }
