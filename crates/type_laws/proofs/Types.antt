-- Types, references and type arguments.
use Rattle.std.proofs.Common.{◌≡◌, ℕ, zero, suc, ◌<◌, ◌≤◌, inl, inr, Bool, true, false, ◌||◌, List, [], ◌∷◌, ◌++◌, length, Some, None, IfSome, refl, sym, ap, ◌∙◌, subst, arith, append_assoc}
use Rattle.je_base.specs.declared.span.Span.{Span}
use Rattle.je_token.specs.declared.keyword.Keyword.TheVariants as word
use Rattle.je_token.specs.declared.symbol.Symbol.TheVariants as symbol
use Rattle.je_token.specs.declared.token.Token.{Token}
use Rattle.je_token.specs.declared.token.TokenKind.{TokenKind}
use Rattle.je_token.specs.declared.token.TokenKind.TheVariants as kind
use Rattle.je_ast.specs.declared.ty_name.Primitive.{Primitive}
use Rattle.je_ast.specs.declared.ty_name.Primitive.TheVariants as prim
use Rattle.je_ast.specs.Types.{QualifiedName, TypeName, TypeNames, primitive, class_type, no_types, more_types, type_height, types_height}
use Rattle.je_ast.specs.Spans.{join}
use Rattle.je_grammar.specs.Tokens.{it_is, IsWord, IsSymbol, IsIdentifier, first_span, Closes, one_closes, first_of_two, first_of_three}
use Rattle.je_grammar.specs.Types.{SpellsName, simple_name, qualified_name, SpellsDims, no_dims, more_dims, primitive_word, is_plain_primitive, has_arguments, SpellsTypeName, primitive_type, reference_type, SpellsRef, plain_ref, ref_with_arguments, SpellsTypeArguments, last_argument, more_arguments}
use Rattle.je_grammar.specs.Grammar.{SpellsElement, primitive_element, class_element}
use Rattle.je_grammar.proofs.AtLeastOne.{types_spell_some}
use Rattle.parse_laws.specs.way.Tokens.{Read, ◌>>=◌, with, behind, is_symbol, closes_at}
use Rattle.parse_laws.specs.way.Types.{name_at, dims_at, primitive_kind, primitive_at, type_names, primitive_type_at, with_dims, type_argument_at, type_arguments_at, reference_layer, type_layer, type_at, reference_at, element_at, plain_type_at}
use Rattle.parse_laws.specs.way.Readers.{Reads, itself, longer}
use Rattle.type_laws.specs.Laws.{IsExact, IsExactDims, IsAsLong, names_on, dims_on, plain_types_on}
use Rattle.parse_laws.proofs.Rules.{bind, weaken, is_none}
use Rattle.type_laws.proofs.Rules.{choose, either}
use Rattle.parse_laws.proofs.Fronts.{Front, front, behind_front, is_of}
use Rattle.type_laws.proofs.Fronts.{closes_sound, closes_exact}
use Rattle.type_laws.proofs.Names.{name_sound, name_exact, name_complete, dims_sound, dims_exact, dims_less}

-- primitive types

pub data Prim : List Token → Primitive → List Token → Type 0 where
  a_prim : {p : Primitive} {t : Token} {rest : List Token} → IsWord (primitive_word p) t → Prim (t ∷ rest) p rest

primitive_kind_sound : (k : TokenKind) → IfSome (primitive_kind k) (λ p. k ≡ kind.Keyword (primitive_word p))
primitive_kind_sound (kind.Keyword word.Boolean) = refl
primitive_kind_sound (kind.Keyword word.Byte) = refl
primitive_kind_sound (kind.Keyword word.Short) = refl
primitive_kind_sound (kind.Keyword word.Char) = refl
primitive_kind_sound (kind.Keyword word.Int) = refl
primitive_kind_sound (kind.Keyword word.Long) = refl
primitive_kind_sound _ = tt

pub primitive_sound : (ts : List Token) → IfSome (primitive_at ts) (λ x. Prim ts x.0 x.1)
primitive_sound [] = tt
primitive_sound (t ∷ ts) =
    bind (primitive_kind t.kind) _ (λ p. t.kind ≡ kind.Keyword (primitive_word p)) (λ x. Prim (t ∷ ts) x.0 x.1) (primitive_kind_sound t.kind)
    (λ p e. a_prim (is_of (kind.Keyword (primitive_word p)) t e))

pub primitive_exact : (p : Primitive) {t : Token} (ts : List Token) → IsWord (primitive_word p) t → primitive_at (t ∷ ts) ≡ Some (p, ts)
primitive_exact prim.Boolean ts it_is = refl
primitive_exact prim.Byte ts it_is = refl
primitive_exact prim.Short ts it_is = refl
primitive_exact prim.Char ts it_is = refl
primitive_exact prim.Int ts it_is = refl
primitive_exact prim.Long ts it_is = refl

-- no name begins with a primitive type
pub no_primitive : {n : QualifiedName} {ts rest : List Token} → SpellsName n ts rest → primitive_at ts ≡ None
no_primitive (simple_name it_is) = refl
no_primitive (qualified_name it_is d m) = refl

-- the first token of a type
pub data TypeFront : List Token → Type 0 where
  primitive_front : (p : Primitive) {t : Token} {rest : List Token} → IsWord (primitive_word p) t → TypeFront (t ∷ rest)
  name_front : {t : Token} {rest : List Token} → IsIdentifier t → TypeFront (t ∷ rest)

name_begins : {n : QualifiedName} {ts rest : List Token} → SpellsName n ts rest → TypeFront ts
name_begins (simple_name i) = name_front i
name_begins (qualified_name i d m) = name_front i

pub type_begins : {t : TypeName} {ts rest : List Token} → SpellsTypeName t ts rest → TypeFront ts
type_begins (primitive_type {p} w d) = primitive_front p w
type_begins (reference_type (plain_ref m) d) = name_begins m
type_begins (reference_type (ref_with_arguments m o a) d) = name_begins m

-- ---- sound

pub record IsType (h : ℕ) (ts : List Token) (x : TypeName × List Token) : Type 0 where
  pub spelled : SpellsTypeName x.0 ts x.1
  pub within : type_height x.0 ≤ h

pub record IsReference (h : ℕ) (ts : List Token) (x : TypeName × List Token) : Type 0 where
  pub name : QualifiedName
  pub arguments : TypeNames
  pub span : Span
  pub whole : x.0 ≡ class_type name arguments 0 span
  pub spelled : SpellsRef name arguments span ts x.1
  pub within : types_height arguments < h

record IsArgument (h : ℕ) (ts : List Token) (x : TypeName × List Token) : Type 0 where
  plain : is_plain_primitive x.0 ≡ false
  spelled : SpellsTypeName x.0 ts x.1
  within : type_height x.0 ≤ h

record AreArguments (h : ℕ) (before : List TypeName) (ts : List Token) (x : TypeNames × Span × List Token) : Type 0 where
  list : List TypeName
  whole : x.0 ≡ type_names (before ++ list)
  spelled : SpellsTypeArguments (type_names list) x.1 ts x.2
  within : types_height (type_names list) ≤ h

abbrev pub SoundTypes : ℕ → (List Token → Read TypeName) → Type 0
SoundTypes h p = (ts : List Token) → IfSome (p ts) (IsType h ts)

argument_more : (h : ℕ) (before : List TypeName) {t : TypeName} {ts all mid : List Token} (y : TypeNames × Span × List Token) →
    IsArgument h ts (t, all) → Front (kind.Symbol symbol.Comma) all mid → AreArguments h (before ++ t ∷ []) mid y → AreArguments h before ts y
argument_more h before {t} y a (front k) m = record {
  list = t ∷ m.list;
  whole = m.whole ∙ ap type_names (append_assoc before (t ∷ []) m.list);
  spelled = more_arguments a.plain a.spelled k m.spelled;
  within = let b = a.within in let c = m.within in omega arith;
}

module _ (h : ℕ) (p : List Token → Read TypeName) (sound : SoundTypes h p) where
  argument_sound : (ts : List Token) → IfSome (type_argument_at p ts) (IsArgument h ts)
  unfolding type_argument_at
  argument_sound ts =
      bind (p ts) _ (IsType h ts) (IsArgument h ts) (sound ts)
      (λ x g. choose (is_plain_primitive x.0) None (Some x) (IsArgument h ts) (λ e. tt) (λ e. record { plain = e; spelled = g.spelled; within = g.within }))

  arguments_sound : (n : ℕ) (before : List TypeName) (ts : List Token) → IfSome (type_arguments_at p n before ts) (AreArguments h before ts)
  unfolding type_arguments_at
  arguments_sound zero before ts = tt
  arguments_sound (suc n) before ts =
      bind (type_argument_at p ts) _ (IsArgument h ts) (AreArguments h before ts) (argument_sound ts)
      (λ x a. either (behind symbol.Comma x.1) _ _ (Front (kind.Symbol symbol.Comma) x.1) (λ o. IfSome o (AreArguments h before ts)) (behind_front (kind.Symbol symbol.Comma) x.1)
      (λ mid k. weaken (type_arguments_at p n (before ++ x.0 ∷ []) mid) (AreArguments h (before ++ x.0 ∷ []) mid) (AreArguments h before ts) (arguments_sound n (before ++ x.0 ∷ []) mid)
      (λ y m. argument_more h before y a k m))
      (λ e. bind (closes_at x.1) _ (λ c. Closes c.0 x.1 c.1) (AreArguments h before ts) (closes_sound x.1)
      (λ c d. record { list = x.0 ∷ []; whole = refl; spelled = last_argument a.plain a.spelled d; within = let b = a.within in omega arith })))

  plain_reference : (ts : List Token) (x : QualifiedName × List Token) → SpellsName x.0 ts x.1 → IsReference (suc h) ts (class_type x.0 no_types 0 x.0.span, x.1)
  plain_reference ts x m = record { name = x.0; arguments = no_types; span = x.0.span; whole = refl; spelled = plain_ref m; within = omega arith }

  with_arguments : (ts : List Token) {n : QualifiedName} {all mid : List Token} (y : TypeNames × Span × List Token) → SpellsName n ts all → Front (kind.Symbol symbol.Less) all mid →
      AreArguments h [] mid y → IsReference (suc h) ts (class_type n y.0 0 (join n.span y.1), y.2)
  with_arguments ts {n} {mid = mid} y m (front o) a =
      record {
        name = n;
        arguments = y.0;
        span = join n.span y.1;
        whole = refl;
        spelled = ref_with_arguments m o (subst (λ us. SpellsTypeArguments us y.1 mid y.2) (sym a.whole) a.spelled);
        within = subst (λ us. types_height us < suc h) (sym a.whole) (let b = a.within in omega arith);
      }

  pub reference_layer_sound : (ts : List Token) → IfSome (reference_layer p ts) (IsReference (suc h) ts)
  unfolding reference_layer
  reference_layer_sound ts =
      bind (name_at ts) _ (λ x. SpellsName x.0 ts x.1) (IsReference (suc h) ts) (name_sound ts)
      (λ x m. either (behind symbol.Less x.1) _ _ (Front (kind.Symbol symbol.Less) x.1) (λ o. IfSome o (IsReference (suc h) ts)) (behind_front (kind.Symbol symbol.Less) x.1)
      (λ mid o. bind (type_arguments_at p (length mid) [] mid) _ (AreArguments h [] mid) (IsReference (suc h) ts) (arguments_sound (length mid) [] mid)
      (λ y a. with_arguments ts y m o a))
      (λ e. plain_reference ts x m))

  type_of_primitive : {q : Primitive} {ts rest : List Token} → Prim ts q rest → IsType (suc h) ts (primitive_type_at q (first_span ts) rest)
  unfolding primitive_type_at
  type_of_primitive (a_prim {t} {rest} w) = record { spelled = primitive_type w (dims_sound t.span rest); within = omega arith }

  type_of_class : (ts : List Token) {n : QualifiedName} {us : TypeNames} {s : Span} (rest : List Token) → SpellsRef n us s ts rest → types_height us < suc h →
      IsType (suc h) ts (with_dims (class_type n us 0 s, rest))
  type_of_class ts {s = s} rest r low = record { spelled = reference_type r (dims_sound s rest); within = low }

  type_of_reference : (ts : List Token) (x : TypeName × List Token) → IsReference (suc h) ts x → IsType (suc h) ts (with_dims x)
  type_of_reference ts x r = subst (λ t. IsType (suc h) ts (with_dims (t, x.1))) (sym r.whole) (type_of_class ts x.1 r.spelled r.within)

  pub type_layer_sound : (ts : List Token) → IfSome (type_layer p ts) (IsType (suc h) ts)
  unfolding type_layer
  type_layer_sound ts =
      either (primitive_at ts) _ _ (λ x. Prim ts x.0 x.1) (λ o. IfSome o (IsType (suc h) ts)) (primitive_sound ts)
      (λ x w. type_of_primitive w)
      (λ e. bind (reference_layer p ts) _ (IsReference (suc h) ts) (IsType (suc h) ts) (reference_layer_sound ts)
      (λ x r. type_of_reference ts x r))

pub type_sound : (h : ℕ) (ts : List Token) → IfSome (type_at h ts) (IsType h ts)
unfolding type_at
type_sound zero ts = tt
type_sound (suc h) ts = type_layer_sound h (type_at h) (type_sound h) ts

pub reference_sound : (h : ℕ) (ts : List Token) → IfSome (reference_at h ts) (IsReference h ts)
unfolding reference_at
reference_sound zero ts = tt
reference_sound (suc h) ts = reference_layer_sound h (type_at h) (type_sound h) ts

-- ---- exact

-- A list of types that aren't read on: neither a point and an identifier, nor `<`, nor brackets follow.
pub record Stops (rest : List Token) : Type 0 where
  pub no_part : names_on rest ≡ false
  pub no_less : is_symbol symbol.Less rest ≡ false
  pub no_dims : dims_on rest ≡ false

abbrev pub CompleteTypes : ℕ → (List Token → Read TypeName) → Type 0
CompleteTypes h p = (t : TypeName) (ts rest : List Token) → SpellsTypeName t ts rest → type_height t ≤ h → Stops rest → p ts ≡ Some (t, rest)

unfoldable pub types_of : TypeNames → List TypeName
types_of no_types = []
types_of (more_types t us) = t ∷ types_of us

pub types_back : (us : TypeNames) → type_names (types_of us) ≡ us
unfolding types_of
types_back no_types = refl
types_back (more_types t us) = ap (more_types t) (types_back us)

stops_closing : {c : Span} {ts rest : List Token} → Closes c ts rest → Stops ts
stops_closing (one_closes it_is) = record { no_part = refl; no_less = refl; no_dims = refl }
stops_closing (first_of_two it_is) = record { no_part = refl; no_less = refl; no_dims = refl }
stops_closing (first_of_three it_is) = record { no_part = refl; no_less = refl; no_dims = refl }

pub no_comma : {c : Span} {ts rest : List Token} → Closes c ts rest → behind symbol.Comma ts ≡ None
no_comma (one_closes it_is) = refl
no_comma (first_of_two it_is) = refl
no_comma (first_of_three it_is) = refl

stops_comma : {k : Token} (rest : List Token) → IsSymbol symbol.Comma k → Stops (k ∷ rest)
stops_comma rest it_is = record { no_part = refl; no_less = refl; no_dims = refl }

-- an exact number of brackets, with what they stand behind
primitive_dims : (q : Primitive) (n : ℕ) (s : Span) (rest : List Token) (y : ℕ × Span × List Token) → IsExactDims (dims_on rest) n s rest y →
    Reads (Some (primitive q y.0 y.1, y.2)) (primitive q n s) rest (dims_on rest ≡ true)
primitive_dims q n s rest y (inl e) = itself (ap (λ (z : ℕ × Span × List Token). Some (primitive q z.0 z.1, z.2)) e)
primitive_dims q n s rest y (inr l) = longer refl l.0 l.1

class_dims : (name : QualifiedName) (us : TypeNames) (n : ℕ) (s : Span) (rest : List Token) (y : ℕ × Span × List Token) → IsExactDims (dims_on rest) n s rest y →
    Reads (Some (class_type name us y.0 y.1, y.2)) (class_type name us n s) rest (dims_on rest ≡ true)
class_dims name us n s rest y (inl e) = itself (ap (λ (z : ℕ × Span × List Token). Some (class_type name us z.0 z.1, z.2)) e)
class_dims name us n s rest y (inr l) = longer refl l.0 l.1

part_behind : {n : ℕ} {s e : Span} {ts rest : List Token} → SpellsDims n s e ts rest → names_on rest ≡ false → names_on ts ≡ false
part_behind no_dims stops = stops
part_behind (more_dims it_is c d) stops = refl

less_behind : {n : ℕ} {s e : Span} {ts rest : List Token} → SpellsDims n s e ts rest → is_symbol symbol.Less rest ≡ false → is_symbol symbol.Less ts ≡ false
less_behind no_dims stops = stops
less_behind (more_dims it_is c d) stops = refl

no_primitive_reference : {n : QualifiedName} {us : TypeNames} {s : Span} {ts rest : List Token} → SpellsRef n us s ts rest → primitive_at ts ≡ None
no_primitive_reference (plain_ref m) = no_primitive m
no_primitive_reference (ref_with_arguments m o a) = no_primitive m

module _ (h : ℕ) (p : List Token → Read TypeName) (complete : CompleteTypes h p) where
  argument_exact : (t : TypeName) (ts rest : List Token) → is_plain_primitive t ≡ false → SpellsTypeName t ts rest → type_height t ≤ h → Stops rest → type_argument_at p ts ≡ Some (t, rest)
  unfolding type_argument_at
  argument_exact t ts rest plain d low stops = rw (complete t ts rest d low stops, plain) refl

  arguments_exact : (n : ℕ) (before : List TypeName) {us : TypeNames} {c : Span} {ts rest : List Token} → SpellsTypeArguments us c ts rest → types_height us ≤ h → length ts ≤ n →
      type_arguments_at p n before ts ≡ Some (type_names (before ++ types_of us), c, rest)
  unfolding type_arguments_at types_of
  arguments_exact zero before (last_argument {t} {ts} {mid} plain d c) low enough = let a = types_spell_some t ts mid d in absurd (omega arith)
  arguments_exact zero before (more_arguments {t} {k} {ts} {mid} plain d c m) low enough = let a = types_spell_some t ts (k ∷ mid) d in absurd (omega arith)
  arguments_exact (suc n) before (last_argument {t} {ts} {mid} plain d c) low enough =
      rw (argument_exact t ts mid plain d (omega arith) (stops_closing c), no_comma c, closes_exact c) refl
  arguments_exact (suc n) before (more_arguments {t} {us} {k} {c} {ts} {mid} {rest} plain d it_is m) low enough =
      let a = types_spell_some t ts (k ∷ mid) d in
      rw (argument_exact t ts (k ∷ mid) plain d (omega arith) (stops_comma mid it_is))
      (arguments_exact n (before ++ t ∷ []) m (omega arith) (omega arith) ∙ ap (λ (xs : List TypeName). Some (type_names xs, c, rest)) (append_assoc before (t ∷ []) (types_of us)))

  pub reference_layer_exact : {n : QualifiedName} {us : TypeNames} {s : Span} {ts rest : List Token} → SpellsRef n us s ts rest → types_height us ≤ h →
      names_on rest ≡ false → is_symbol symbol.Less rest ≡ false → reference_layer p ts ≡ Some (class_type n us 0 s, rest)
  unfolding reference_layer
  reference_layer_exact {rest} (plain_ref m) low part less = rw (name_complete m part, is_none (behind symbol.Less rest) less) refl
  reference_layer_exact (ref_with_arguments {n} {args} {c = c} {mid = mid} {rest} m it_is a) low part less =
      rw (name_complete m refl, arguments_exact (length mid) [] a low (omega arith))
      (ap (λ (us : TypeNames). Some (class_type n us 0 (join n.span c), rest)) (types_back args))

  type_layer_exact : {t : TypeName} {ts rest : List Token} → SpellsTypeName t ts rest → type_height t ≤ suc h → names_on rest ≡ false → is_symbol symbol.Less rest ≡ false →
      Reads (type_layer p ts) t rest (dims_on rest ≡ true)
  unfolding type_layer primitive_type_at
  type_layer_exact {rest} (primitive_type {p = q} {t} {n} {s} {ts} w d) low part less =
      rw (primitive_exact q ts w) (primitive_dims q n s rest (dims_at t.span ts) (dims_exact d))
  type_layer_exact {rest} (reference_type {n} {args} {dims} {r} {s} {mid = mid} f d) low part less =
      rw (no_primitive_reference f, reference_layer_exact f (omega arith) (part_behind d part) (less_behind d less))
      (class_dims n args dims s rest (dims_at r mid) (dims_exact d))

at_stop : {T : Type 0} {o : Read T} {t : T} {rest : List Token} {goes_on : Bool} → goes_on ≡ false → Reads o t rest (goes_on ≡ true) → o ≡ Some (t, rest)
at_stop stops (itself e) = e
at_stop stops (longer e l on) = absurd cc

pub type_positive : (t : TypeName) → 0 < type_height t
type_positive (primitive p n s) = omega arith
type_positive (class_type n us k s) = omega arith

pub type_complete : (h : ℕ) → CompleteTypes h (type_at h)
unfolding type_at
type_complete zero t ts rest d low stops = let a = type_positive t in absurd (omega arith)
type_complete (suc h) t ts rest d low stops = at_stop stops.no_dims (type_layer_exact h (type_at h) (type_complete h) d low stops.no_part stops.no_less)

pub type_exact : (h : ℕ) (t : TypeName) (ts rest : List Token) → SpellsTypeName t ts rest → type_height t ≤ h → names_on rest ≡ false → is_symbol symbol.Less rest ≡ false →
    Reads (type_at h ts) t rest (dims_on rest ≡ true)
unfolding type_at
type_exact zero t ts rest d low part less = let a = type_positive t in absurd (omega arith)
type_exact (suc h) t ts rest d low part less = type_layer_exact h (type_at h) (type_complete h) d low part less

pub reference_exact : (h : ℕ) {n : QualifiedName} {us : TypeNames} {s : Span} {ts rest : List Token} → SpellsRef n us s ts rest → types_height us < h →
    names_on rest ≡ false → is_symbol symbol.Less rest ≡ false → reference_at h ts ≡ Some (class_type n us 0 s, rest)
unfolding reference_at
reference_exact zero r low part less = absurd (omega arith)
reference_exact (suc h) r low part less = reference_layer_exact h (type_at h) (type_complete h) r (omega arith) part less

-- ---- types without type arguments

pub record IsPlainType (ts : List Token) (x : TypeName × List Token) : Type 0 where
  pub spelled : SpellsTypeName x.0 ts x.1
  pub plain : has_arguments x.0 ≡ false

plain_of_primitive : {q : Primitive} {ts rest : List Token} → Prim ts q rest → IsPlainType ts (primitive_type_at q (first_span ts) rest)
unfolding primitive_type_at
plain_of_primitive (a_prim {t} {rest} w) = record { spelled = primitive_type w (dims_sound t.span rest); plain = refl }

plain_of_name : {n : QualifiedName} {ts : List Token} (rest : List Token) → SpellsName n ts rest → IsPlainType ts (with_dims (class_type n no_types 0 n.span, rest))
plain_of_name {n} rest m = record { spelled = reference_type (plain_ref m) (dims_sound n.span rest); plain = refl }

pub plain_type_sound : (ts : List Token) → IfSome (plain_type_at ts) (IsPlainType ts)
unfolding plain_type_at
plain_type_sound ts =
    either (primitive_at ts) _ _ (λ x. Prim ts x.0 x.1) (λ o. IfSome o (IsPlainType ts)) (primitive_sound ts)
    (λ x w. plain_of_primitive w)
    (λ e. bind (name_at ts) _ (λ x. SpellsName x.0 ts x.1) (IsPlainType ts) (name_sound ts) (λ x m. plain_of_name x.1 m))

right_true : (a b : Bool) → b ≡ true → (a || b) ≡ true
right_true true b e = refl
right_true false b e = e

left_true : (a b : Bool) → a ≡ true → (a || b) ≡ true
left_true true b e = refl
left_true false b e = absurd cc

on_dims : {T : Type 0} {o : Read T} {t : T} {rest : List Token} → Reads o t rest (dims_on rest ≡ true) → Reads o t rest (plain_types_on rest ≡ true)
on_dims (itself e) = itself e
on_dims {rest} (longer e l on) = longer e l (right_true (names_on rest) (dims_on rest) on)

-- behind more of a name there is less
name_then_dims : {n : QualifiedName} {k : ℕ} {s : Span} {mid rest : List Token} (x : QualifiedName × List Token) → SpellsDims k n.span s mid rest → IsExact (names_on mid) n mid x →
    Reads (Some (with_dims (class_type x.0 no_types 0 x.0.span, x.1))) (class_type n no_types k s) rest (plain_types_on rest ≡ true)
name_then_dims {n} {k} {s} {mid} {rest} x d (inl e) =
    subst (λ (z : QualifiedName × List Token). Reads (Some (with_dims (class_type z.0 no_types 0 z.0.span, z.1))) (class_type n no_types k s) rest (plain_types_on rest ≡ true)) (sym e)
    (on_dims (class_dims n no_types k s rest (dims_at n.span mid) (dims_exact d)))
name_then_dims {n} {rest = rest} x no_dims (inr l) = longer refl (let a = dims_less x.0.span x.1 in let b = l.0 in omega arith) (left_true (names_on rest) (dims_on rest) l.1)
name_then_dims x (more_dims it_is c d) (inr l) = let e = l.1 in absurd cc

plain_of_reference : {n : QualifiedName} {us : TypeNames} {s : Span} {k : ℕ} {e : Span} {ts mid rest : List Token} → SpellsRef n us s ts mid → SpellsDims k s e mid rest →
    has_arguments (class_type n us k e) ≡ false → Reads (plain_type_at ts) (class_type n us k e) rest (plain_types_on rest ≡ true)
unfolding plain_type_at
plain_of_reference (plain_ref m) d plain = let x = name_exact m in rw (no_primitive m, x.1) (name_then_dims x.0 d x.2)
plain_of_reference (ref_with_arguments m o (last_argument p t c)) d plain = absurd cc
plain_of_reference (ref_with_arguments m o (more_arguments p t k a)) d plain = absurd cc

pub plain_type_exact : (t : TypeName) (ts rest : List Token) → SpellsTypeName t ts rest → has_arguments t ≡ false → Reads (plain_type_at ts) t rest (plain_types_on rest ≡ true)
unfolding plain_type_at primitive_type_at
plain_type_exact _ _ rest (primitive_type {p = q} {t} {n} {s} {ts} w d) plain =
    rw (primitive_exact q ts w) (on_dims (primitive_dims q n s rest (dims_at t.span ts) (dims_exact d)))
plain_type_exact _ _ rest (reference_type r d) plain = plain_of_reference r d plain

element_of_primitive : {q : Primitive} {ts rest : List Token} → Prim ts q rest → SpellsElement (primitive q 0 (first_span ts)) ts rest
element_of_primitive (a_prim w) = primitive_element w

pub element_sound : (ts : List Token) → IfSome (element_at ts) (λ x. SpellsElement x.0 ts x.1)
unfolding element_at
element_sound ts =
    either (primitive_at ts) _ _ (λ x. Prim ts x.0 x.1) (λ (o : Read TypeName). IfSome o (λ x. SpellsElement x.0 ts x.1)) (primitive_sound ts)
    (λ x w. element_of_primitive w)
    (λ e. bind (name_at ts) _ (λ x. SpellsName x.0 ts x.1) (λ x. SpellsElement x.0 ts x.1) (name_sound ts) (λ x m. class_element m))

element_of_name : {n : QualifiedName} {rest : List Token} (x : QualifiedName × List Token) → IsExact (names_on rest) n rest x →
    Reads (Some (class_type x.0 no_types 0 x.0.span, x.1)) (class_type n no_types 0 n.span) rest (names_on rest ≡ true)
element_of_name x (inl e) = itself (ap (λ (z : QualifiedName × List Token). Some (class_type z.0 no_types 0 z.0.span, z.1)) e)
element_of_name x (inr l) = longer refl l.0 l.1

pub element_exact : (t : TypeName) (ts rest : List Token) → SpellsElement t ts rest → Reads (element_at ts) t rest (names_on rest ≡ true)
unfolding element_at
element_exact _ _ rest (primitive_element {p = q} w) = rw (primitive_exact q rest w) (itself refl)
element_exact _ _ rest (class_element m) = let x = name_exact m in rw (no_primitive m, x.1) (element_of_name x.0 x.2)

-- ---- longest

closes_shorter : {c : Span} {ts rest : List Token} → Closes c ts rest → length rest ≤ length ts
closes_shorter (one_closes t) = omega arith
closes_shorter (first_of_two t) = omega arith
closes_shorter (first_of_three t) = omega arith

arguments_less : {us : TypeNames} {c : Span} {ts rest : List Token} → SpellsTypeArguments us c ts rest → length rest < length ts
arguments_less (last_argument {t} {ts = ts} {mid} plain d c) = let a = types_spell_some t ts mid d in let b = closes_shorter c in omega arith
arguments_less (more_arguments {t} {k = k} {ts = ts} {mid} plain d i m) = let a = types_spell_some t ts (k ∷ mid) d in let b = arguments_less m in omega arith

less_behind_symbol : {k : TokenKind} {ts rest : List Token} → Front k ts rest → length rest < length ts
less_behind_symbol (front i) = omega arith

with_dims_less : (x : TypeName × List Token) → length (with_dims x).1 ≤ length x.1
with_dims_less (class_type n us k s, ts) = dims_less s ts
with_dims_less (primitive p k s, ts) = omega arith

dims_as_long : (name : QualifiedName) (us : TypeNames) (n : ℕ) (s : Span) (rest : List Token) (y : ℕ × Span × List Token) → IsExactDims (dims_on rest) n s rest y →
    IsAsLong (class_type name us n s) rest (class_type name us y.0 y.1, y.2)
dims_as_long name us n s rest y (inl e) = inl (ap (λ (z : ℕ × Span × List Token). (class_type name us z.0 z.1, z.2)) e)
dims_as_long name us n s rest y (inr l) = inr l.0

primitive_as_long : (q : Primitive) (n : ℕ) (s : Span) (rest : List Token) (y : ℕ × Span × List Token) → IsExactDims (dims_on rest) n s rest y →
    IsAsLong (primitive q n s) rest (primitive q y.0 y.1, y.2)
primitive_as_long q n s rest y (inl e) = inl (ap (λ (z : ℕ × Span × List Token). (primitive q z.0 z.1, z.2)) e)
primitive_as_long q n s rest y (inr l) = inr l.0

module _ (h : ℕ) where
  -- what comes behind a name that is this one or a longer one
  behind_longer : {n : QualifiedName} {rest : List Token} (x : QualifiedName × List Token) → IsExact (names_on rest) n rest x →
      IfSome (with (behind symbol.Less x.1) (λ mid. type_arguments_at (type_at h) (length mid) [] mid >>= λ us. Some (class_type x.0 us.0 0 (join x.0.span us.1), us.2)) (Some (class_type x.0 no_types 0 x.0.span, x.1)))
      (IsAsLong (class_type n no_types 0 n.span) rest)
  behind_longer {n} {rest} x e =
      let le : length x.1 ≤ length rest = shorter e in
      either (behind symbol.Less x.1) _ _ (Front (kind.Symbol symbol.Less) x.1) (λ o. IfSome o (IsAsLong (class_type n no_types 0 n.span) rest)) (behind_front (kind.Symbol symbol.Less) x.1)
      (λ mid b. bind (type_arguments_at (type_at h) (length mid) [] mid) _ (AreArguments h [] mid) (IsAsLong (class_type n no_types 0 n.span) rest) (arguments_sound h (type_at h) (type_sound h) (length mid) [] mid)
      (λ us a. inr (let c = less_behind_symbol b in let d = arguments_less a.spelled in omega arith)))
      (λ none. plain e)
    where
      shorter : IsExact (names_on rest) n rest x → length x.1 ≤ length rest
      shorter (inl e) = let f = ap (λ (y : QualifiedName × List Token). length y.1) e in omega arith
      shorter (inr l) = let f = l.0 in omega arith

      plain : IsExact (names_on rest) n rest x → IsAsLong (class_type n no_types 0 n.span) rest (class_type x.0 no_types 0 x.0.span, x.1)
      plain (inl e) = inl (ap (λ (z : QualifiedName × List Token). (class_type z.0 no_types 0 z.0.span, z.1)) e)
      plain (inr l) = inr l.0

  reference_layer_longest : {n : QualifiedName} {us : TypeNames} {s : Span} {ts rest : List Token} → SpellsRef n us s ts rest → types_height us ≤ h →
      IfSome (reference_layer (type_at h) ts) (IsAsLong (class_type n us 0 s) rest)
  unfolding reference_layer
  reference_layer_longest (plain_ref m) low = let x = name_exact m in rw x.1 (behind_longer x.0 x.2)
  reference_layer_longest (ref_with_arguments {n} {args} {c = c} {mid = mid} {rest} m it_is a) low =
      rw (name_complete m refl, arguments_exact h (type_at h) (type_complete h) (length mid) [] a low (omega arith))
      (inl (ap (λ (us : TypeNames). (class_type n us 0 (join n.span c), rest)) (types_back args)))

  -- brackets behind a reference that is this one or a longer one
  dims_longer : (n : QualifiedName) (us : TypeNames) (s : Span) (rest : List Token) (x : TypeName × List Token) → IsAsLong (class_type n us 0 s) rest x → IsAsLong (class_type n us 0 s) rest (with_dims x)
  dims_longer n us s rest x (inl e) = subst (λ (z : TypeName × List Token). IsAsLong (class_type n us 0 s) rest (with_dims z)) (sym e) (dims_as_long n us 0 s rest (dims_at s rest) (dims_exact no_dims))
  dims_longer n us s rest x (inr l) = inr (let a = with_dims_less x in omega arith)

  type_layer_longest : {t : TypeName} {ts rest : List Token} → SpellsTypeName t ts rest → type_height t ≤ suc h → IfSome (type_layer (type_at h) ts) (IsAsLong t rest)
  unfolding type_layer primitive_type_at
  type_layer_longest {rest = rest} (primitive_type {p = q} {t} {n} {s} {ts} w d) low = rw (primitive_exact q ts w) (primitive_as_long q n s rest (dims_at t.span ts) (dims_exact d))
  type_layer_longest {ts = ts} {rest} (reference_type {n} {args} {s = s} f no_dims) low =
      rw (no_primitive_reference f)
      (bind (reference_layer (type_at h) ts) _ (IsAsLong (class_type n args 0 s) rest) (IsAsLong (class_type n args 0 s) rest) (reference_layer_longest f (omega arith)) (λ x l. dims_longer n args s rest x l))
  type_layer_longest {rest = rest} (reference_type {n} {args} {dims} {r} {s} {mid = mid} f (more_dims it_is c d)) low =
      rw (no_primitive_reference f, reference_layer_exact h (type_at h) (type_complete h) f (omega arith) refl refl)
      (dims_as_long n args dims s rest (dims_at r mid) (dims_exact (more_dims it_is c d)))

pub type_longest : (h : ℕ) {t : TypeName} {ts rest : List Token} → SpellsTypeName t ts rest → type_height t ≤ h → IfSome (type_at h ts) (IsAsLong t rest)
unfolding type_at
type_longest zero d low = tt
type_longest (suc h) d low = type_layer_longest h d low

pub reference_longest : (h : ℕ) {n : QualifiedName} {us : TypeNames} {s : Span} {ts rest : List Token} → SpellsRef n us s ts rest → types_height us < h →
    IfSome (reference_at h ts) (IsAsLong (class_type n us 0 s) rest)
unfolding reference_at
reference_longest zero r low = tt
reference_longest (suc h) r low = reference_layer_longest h r (omega arith)
