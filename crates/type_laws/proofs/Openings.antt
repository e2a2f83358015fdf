-- The heads of classes, interfaces, methods and constructors.
use Rattle.std.proofs.Common.{◌≡◌, ℕ, ◌≤◌, true, false, List, ◌∷◌, Option, Some, None, IfSome, refl, arith}
use Rattle.je_token.specs.declared.keyword.Keyword.{Keyword}
use Rattle.je_token.specs.declared.keyword.Keyword.TheVariants as word
use Rattle.je_token.specs.declared.symbol.Symbol.TheVariants as symbol
use Rattle.je_token.specs.declared.token.Token.{Token}
use Rattle.je_token.specs.declared.token.TokenKind.{TokenKind}
use Rattle.je_token.specs.declared.token.TokenKind.TheVariants as kind
use Rattle.je_ast.specs.declared.name.Identifier.{Identifier}
use Rattle.je_ast.specs.declared.ty_name.Primitive.TheVariants as prim
use Rattle.je_ast.specs.Types.{QualifiedName, TypeName, TypeNames, TypeParameter, FormalParameter}
use Rattle.je_ast.specs.Height.{type_height_if}
use Rattle.je_grammar.specs.Tokens.{it_is, IsWord, IsSymbol, IsIdentifier, identifier}
use Rattle.je_grammar.specs.Types.{SpellsThrows, SpellsResult, void_result, typed_result}
use Rattle.je_grammar.specs.Grammar.{SpellsExtends, no_extends, some_extends, SpellsImplements, no_implements, some_implements, SpellsExtendsAll, extends_nothing, extends_all}
use Rattle.parse_laws.specs.way.Tokens.{◌>>=◌, is_some, behind_kind, behind_word, is_symbol, is_word, identifier_at}
use Rattle.parse_laws.specs.way.Types.{type_at, formals_at, throws_at, parameters_at, superclass_at, references_at}
use Rattle.parse_laws.specs.way.Members.{ClassHead, InterfaceHead, MethodHead, ConstructorHead, class_head_at, interface_head_at, result_type_at, method_head_at, constructor_head_at}
use Rattle.type_laws.specs.Laws.{names_on, dims_on, references_on, types_on, throws_on}
use Rattle.type_laws.specs.Heads.{SpellsClassHead, class_head, class_height, SpellsInterfaceHead, interface_head, interface_height, SpellsMethodHead, method_head, method_height, SpellsConstructorHead, constructor_head, constructor_height}
use Rattle.parse_laws.proofs.Rules.{bind, weaken, or_split}
use Rattle.type_laws.proofs.Rules.{choose, either}
use Rattle.parse_laws.proofs.Fronts.{Front, front, behind_front}
use Rattle.type_laws.proofs.Fronts.{First, a_first, identifier_sound}
use Rattle.type_laws.proofs.Types.{TypeFront, primitive_front, name_front, type_begins, IsType, type_sound, type_complete}
use Rattle.type_laws.proofs.Heads.{throws_sound, throws_exact, AreImplements, implements_sound, implements_exact, AreExtends, extends_all_sound, extends_all_exact, StopsRefs, IsSuperclass, superclass_sound, superclass_exact, AreAllFormals, formals_sound, formals_exact, AreAllParameters, parameters_sound, parameters_exact}

-- what a test says that found something
stands_in : (k : TokenKind) (ts : List Token) (o : Option (List Token)) → IfSome o (Front k ts) → is_some o ≡ true → (rest : List Token) × Front k ts rest
stands_in k ts (Some rest) b e = (rest, b)
stands_in k ts None b e = absurd cc

stands : (k : TokenKind) (ts : List Token) → is_some (behind_kind k ts) ≡ true → (rest : List Token) × Front k ts rest
stands k ts e = stands_in k ts (behind_kind k ts) (behind_front k ts) e

-- a word, an identifier, and the tokens behind them
data Named (w : Keyword) : List Token → Identifier → List Token → Type 0 where
  named : {a t : Token} {rest : List Token} → IsWord w a → IsIdentifier t → Named w (a ∷ t ∷ rest) (identifier t) rest

named_of : {w : Keyword} {ts mid rest : List Token} {i : Identifier} → Front (kind.Keyword w) ts mid → First mid i rest → Named w ts i rest
named_of (front a) (a_first i) = named a i

named_sound : (w : Keyword) (ts : List Token) → IfSome (behind_word w ts >>= identifier_at) (λ x. Named w ts x.0 x.1)
named_sound w ts =
    bind (behind_word w ts) _ (Front (kind.Keyword w) ts) (λ x. Named w ts x.0 x.1) (behind_front (kind.Keyword w) ts)
    (λ mid b. weaken (identifier_at mid) (λ x. First mid x.0 x.1) (λ x. Named w ts x.0 x.1) (identifier_sound mid) (λ x i. named_of b i))

-- ---- classes and interfaces

pub record IsClassHead (h : ℕ) (ts : List Token) (x : ClassHead × List Token) : Type 0 where
  pub spelled : SpellsClassHead x.0 ts x.1
  pub within : class_height x.0 ≤ h

pub record IsInterfaceHead (h : ℕ) (ts : List Token) (x : InterfaceHead × List Token) : Type 0 where
  pub spelled : SpellsInterfaceHead x.0 ts x.1
  pub within : interface_height x.0 ≤ h

class_of : (h : ℕ) {ts mid next last end rest : List Token} {i : Identifier} {ps : List TypeParameter} {e : Option TypeName} {us : TypeNames} →
    Named word.Class ts i mid → AreAllParameters h mid (ps, next) → IsSuperclass h next (e, last) → AreImplements h last (us, end) → Front (kind.Symbol symbol.OpenBrace) end rest →
    IsClassHead h ts (record { name = i; parameters = ps; extends = e; implements = us }, end)
class_of h (named a t) ps e us (front o) = record {
  spelled = class_head a t ps.spelled e.spelled us.spelled o;
  within = let x = ps.within in let y = e.within in let z = us.within in omega arith;
}

pub class_head_sound : (h : ℕ) (ts : List Token) → IfSome (class_head_at h ts) (IsClassHead h ts)
unfolding class_head_at
class_head_sound h ts =
    bind (behind_word word.Class ts >>= identifier_at) _ (λ x. Named word.Class ts x.0 x.1) (IsClassHead h ts) (named_sound word.Class ts)
    (λ x i. bind (parameters_at h x.1) _ (AreAllParameters h x.1) (IsClassHead h ts) (parameters_sound h x.1)
    (λ ps a. bind (superclass_at h ps.1) _ (IsSuperclass h ps.1) (IsClassHead h ts) (superclass_sound h ps.1)
    (λ e b. bind (references_at word.Implements h e.1) _ (AreImplements h e.1) (IsClassHead h ts) (implements_sound h e.1)
    (λ us c. choose (is_symbol symbol.OpenBrace us.1) _ None (IsClassHead h ts)
    (λ t. let o = stands (kind.Symbol symbol.OpenBrace) us.1 t in class_of h i a b c o.1)
    (λ f. tt)))))

interface_of : (h : ℕ) {ts mid next end rest : List Token} {i : Identifier} {ps : List TypeParameter} {us : TypeNames} →
    Named word.Interface ts i mid → AreAllParameters h mid (ps, next) → AreExtends h next (us, end) → Front (kind.Symbol symbol.OpenBrace) end rest →
    IsInterfaceHead h ts (record { name = i; parameters = ps; extends = us }, end)
interface_of h (named a t) ps us (front o) = record {
  spelled = interface_head a t ps.spelled us.spelled o;
  within = let x = ps.within in let z = us.within in omega arith;
}

pub interface_head_sound : (h : ℕ) (ts : List Token) → IfSome (interface_head_at h ts) (IsInterfaceHead h ts)
unfolding interface_head_at
interface_head_sound h ts =
    bind (behind_word word.Interface ts >>= identifier_at) _ (λ x. Named word.Interface ts x.0 x.1) (IsInterfaceHead h ts) (named_sound word.Interface ts)
    (λ x i. bind (parameters_at h x.1) _ (AreAllParameters h x.1) (IsInterfaceHead h ts) (parameters_sound h x.1)
    (λ ps a. bind (references_at word.Extends h ps.1) _ (AreExtends h ps.1) (IsInterfaceHead h ts) (extends_all_sound h ps.1)
    (λ us c. choose (is_symbol symbol.OpenBrace us.1) _ None (IsInterfaceHead h ts)
    (λ t. let o = stands (kind.Symbol symbol.OpenBrace) us.1 t in interface_of h i a c o.1)
    (λ f. tt))))

-- what stands before a body goes on with nothing before it
record BeforeBody (ts : List Token) : Type 0 where
  no_extends_word : is_word word.Extends ts ≡ false
  no_part : names_on ts ≡ false
  no_less : is_symbol symbol.Less ts ≡ false

before_implements : {us : TypeNames} {o : Token} {ts rest : List Token} → SpellsImplements us ts (o ∷ rest) → IsSymbol symbol.OpenBrace o → BeforeBody ts
before_implements no_implements it_is = record { no_extends_word = refl; no_part = refl; no_less = refl }
before_implements (some_implements it_is r) o = record { no_extends_word = refl; no_part = refl; no_less = refl }

before_extends : {e : Option TypeName} {ts rest : List Token} → SpellsExtends e ts rest → is_symbol symbol.Less rest ≡ false → is_symbol symbol.Less ts ≡ false
before_extends no_extends less = less
before_extends (some_extends it_is r) less = refl

before_extends_all : {us : TypeNames} {o : Token} {ts rest : List Token} → SpellsExtendsAll us ts (o ∷ rest) → IsSymbol symbol.OpenBrace o → is_symbol symbol.Less ts ≡ false
before_extends_all extends_nothing it_is = refl
before_extends_all (extends_all it_is r) o = refl

-- `{` goes on with nothing
brace_stops : {o : Token} (rest : List Token) → IsSymbol symbol.OpenBrace o → (is_word word.Implements (o ∷ rest) ≡ false) × (is_word word.Extends (o ∷ rest) ≡ false) × StopsRefs (o ∷ rest) × (is_symbol symbol.OpenBrace (o ∷ rest) ≡ true)
brace_stops rest it_is = (refl, refl, record { no_part = refl; no_less = refl; no_more = refl }, refl)

pub class_head_exact : (h : ℕ) {c : ClassHead} {ts rest : List Token} → SpellsClassHead c ts rest → class_height c ≤ h → class_head_at h ts ≡ Some (c, rest)
unfolding class_head_at
class_head_exact h (class_head {o = b} {rest = rest} it_is it_is ps e us o) low =
    let s = before_implements us o in let z = brace_stops rest o in
    rw (
      parameters_exact h ps (omega arith) (before_extends e s.no_less),
      superclass_exact h e (omega arith) s.no_extends_word s.no_part s.no_less,
      implements_exact h us (omega arith) z.0 z.2,
      z.3,
    ) refl

pub interface_head_exact : (h : ℕ) {c : InterfaceHead} {ts rest : List Token} → SpellsInterfaceHead c ts rest → interface_height c ≤ h → interface_head_at h ts ≡ Some (c, rest)
unfolding interface_head_at
interface_head_exact h (interface_head {o = b} {rest = rest} it_is it_is ps us o) low =
    let z = brace_stops rest o in
    rw (parameters_exact h ps (omega arith) (before_extends_all us o), extends_all_exact h us (omega arith) z.1 z.2, z.3) refl

-- ---- results, methods and constructors

pub record IsResult (h : ℕ) (ts : List Token) (x : Option TypeName × List Token) : Type 0 where
  pub spelled : SpellsResult x.0 ts x.1
  pub within : type_height_if x.0 ≤ h

void_of : (h : ℕ) {ts rest : List Token} → Front (kind.Keyword word.Void) ts rest → IsResult h ts (None, rest)
void_of h (front w) = record { spelled = void_result w; within = omega arith }

pub result_sound : (h : ℕ) (ts : List Token) → IfSome (result_type_at h ts) (IsResult h ts)
unfolding result_type_at
result_sound h ts =
    either (behind_word word.Void ts) _ _ (Front (kind.Keyword word.Void) ts) (λ o. IfSome o (IsResult h ts)) (behind_front (kind.Keyword word.Void) ts)
    (λ rest w. void_of h w)
    (λ e. bind (type_at h ts) _ (IsType h ts) (IsResult h ts) (type_sound h ts) (λ t g. record { spelled = typed_result g.spelled; within = g.within }))

not_void : {ts : List Token} → TypeFront ts → behind_word word.Void ts ≡ None
not_void (primitive_front prim.Boolean it_is) = refl
not_void (primitive_front prim.Byte it_is) = refl
not_void (primitive_front prim.Short it_is) = refl
not_void (primitive_front prim.Char it_is) = refl
not_void (primitive_front prim.Int it_is) = refl
not_void (primitive_front prim.Long it_is) = refl
not_void (name_front it_is) = refl

pub result_exact : (h : ℕ) {r : Option TypeName} {ts rest : List Token} → SpellsResult r ts rest → type_height_if r ≤ h → types_on rest ≡ false → result_type_at h ts ≡ Some (r, rest)
unfolding result_type_at
result_exact h (void_result it_is) low stops = refl
result_exact h {rest = rest} (typed_result {ty} {ts = ts} d) low stops =
    let a = or_split (references_on rest) (dims_on rest) stops in let b = or_split (names_on rest) (is_symbol symbol.Less rest) a.0 in
    rw (not_void (type_begins d), type_complete h ty ts rest d low (record { no_part = b.0; no_less = b.1; no_dims = a.1 })) refl

identifier_stops : {t : Token} (rest : List Token) → IsIdentifier t → types_on (t ∷ rest) ≡ false
identifier_stops rest it_is = refl

pub record IsMethodHead (h : ℕ) (ts : List Token) (x : MethodHead × List Token) : Type 0 where
  pub spelled : SpellsMethodHead x.0 ts x.1
  pub within : method_height x.0 ≤ h

pub record IsConstructorHead (h : ℕ) (ts : List Token) (x : ConstructorHead × List Token) : Type 0 where
  pub spelled : SpellsConstructorHead x.0 ts x.1
  pub within : constructor_height x.0 ≤ h

method_of : (h : ℕ) {ts all next last rest : List Token} {r : Option TypeName} {i : Identifier} {fs : List FormalParameter} {ns : List QualifiedName} →
    IsResult h ts (r, all) → First all i next → AreAllFormals h next (fs, last) → SpellsThrows ns last rest →
    IsMethodHead h ts (record { result = r; name = i; formals = fs; throws = ns }, rest)
method_of h r (a_first i) fs ns = record { spelled = method_head r.spelled i fs.spelled ns; within = let a = r.within in let b = fs.within in omega arith }

pub method_head_sound : (h : ℕ) (ts : List Token) → IfSome (method_head_at h ts) (IsMethodHead h ts)
unfolding method_head_at
method_head_sound h ts =
    bind (result_type_at h ts) _ (IsResult h ts) (IsMethodHead h ts) (result_sound h ts)
    (λ r a. bind (identifier_at r.1) _ (λ x. First r.1 x.0 x.1) (IsMethodHead h ts) (identifier_sound r.1)
    (λ x i. bind (formals_at h x.1) _ (AreAllFormals h x.1) (IsMethodHead h ts) (formals_sound h x.1)
    (λ fs b. bind (throws_at fs.1) _ (λ y. SpellsThrows y.0 fs.1 y.1) (IsMethodHead h ts) (throws_sound fs.1)
    (λ ns c. method_of h a i b c))))

identifier_exact : {t : Token} (rest : List Token) → IsIdentifier t → identifier_at (t ∷ rest) ≡ Some (identifier t, rest)
identifier_exact rest it_is = refl

pub method_head_exact : (h : ℕ) {m : MethodHead} {ts rest : List Token} → SpellsMethodHead m ts rest → method_height m ≤ h → throws_on rest ≡ false → method_head_at h ts ≡ Some (m, rest)
unfolding method_head_at
method_head_exact h {rest = rest} (method_head {t = t} {next = next} r i fs ns) low stops =
    let a = or_split (is_word word.Throws rest) _ stops in let b = or_split (names_on rest) (is_symbol symbol.Comma rest) a.1 in
    rw (result_exact h r (omega arith) (identifier_stops next i), identifier_exact next i, formals_exact h fs (omega arith), throws_exact ns a.0 b.0 b.1) refl

constructor_of : (h : ℕ) {ts next last all rest : List Token} {i : Identifier} {fs : List FormalParameter} {ns : List QualifiedName} →
    First ts i next → AreAllFormals h next (fs, last) → SpellsThrows ns last all → Front (kind.Symbol symbol.OpenBrace) all rest →
    IsConstructorHead h ts (record { name = i; formals = fs; throws = ns }, all)
constructor_of h (a_first i) fs ns (front o) = record { spelled = constructor_head i fs.spelled ns o; within = fs.within }

pub constructor_head_sound : (h : ℕ) (ts : List Token) → IfSome (constructor_head_at h ts) (IsConstructorHead h ts)
unfolding constructor_head_at
constructor_head_sound h ts =
    bind (identifier_at ts) _ (λ x. First ts x.0 x.1) (IsConstructorHead h ts) (identifier_sound ts)
    (λ x i. bind (formals_at h x.1) _ (AreAllFormals h x.1) (IsConstructorHead h ts) (formals_sound h x.1)
    (λ fs b. bind (throws_at fs.1) _ (λ y. SpellsThrows y.0 fs.1 y.1) (IsConstructorHead h ts) (throws_sound fs.1)
    (λ ns c. choose (is_symbol symbol.OpenBrace ns.1) _ None (IsConstructorHead h ts)
    (λ t. let o = stands (kind.Symbol symbol.OpenBrace) ns.1 t in constructor_of h i b c o.1)
    (λ f. tt))))

throws_stop : {o : Token} (rest : List Token) → IsSymbol symbol.OpenBrace o →
    (is_word word.Throws (o ∷ rest) ≡ false) × (names_on (o ∷ rest) ≡ false) × (is_symbol symbol.Comma (o ∷ rest) ≡ false) × (is_symbol symbol.OpenBrace (o ∷ rest) ≡ true)
throws_stop rest it_is = (refl, refl, refl, refl)

pub constructor_head_exact : (h : ℕ) {c : ConstructorHead} {ts rest : List Token} → SpellsConstructorHead c ts rest → constructor_height c ≤ h → constructor_head_at h ts ≡ Some (c, rest)
unfolding constructor_head_at
constructor_head_exact h (constructor_head {t} {ts = ts} {rest = rest} i fs ns o) low =
    let z = throws_stop rest o in
    rw (identifier_exact ts i, formals_exact h fs low, throws_exact ns z.0 z.1 z.2, z.3) refl
