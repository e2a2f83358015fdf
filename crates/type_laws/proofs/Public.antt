-- The laws, as they are stated.
use Rattle.std.proofs.Common.{◌≡◌, ℕ, ◌≤◌, max, inl, inr, Bool, true, false, ◌||◌, List, Some, None, IfSome, option_map, sym, ap, ◌∙◌, subst, arith}
use Rattle.je_token.specs.declared.token.Token.{Token}
use Rattle.je_token.specs.declared.keyword.Keyword.TheVariants as word
use Rattle.je_token.specs.declared.symbol.Symbol.TheVariants as symbol
use Rattle.je_ast.specs.Types.{QualifiedName, TypeName, type_height, types_height}
use Rattle.je_ast.specs.Height.{type_height_if, parameters_height, formals_height}
use Rattle.je_grammar.specs.Types.{SpellsName, SpellsTypeName, SpellsFormal, SpellsFormals, SpellsThrows, SpellsTypeParameters, SpellsResult}
use Rattle.je_grammar.specs.Grammar.{SpellsExtends, SpellsImplements, SpellsExtendsAll}
use Rattle.parse_laws.specs.way.Tokens.{Read, is_symbol, is_word}
use Rattle.parse_laws.specs.way.Types.{name_at, type_at, reference_at, plain_type_at, past_type_at, past_name_at, formal_at, formals_at, throws_at, parameters_at, superclass_at, references_at}
use Rattle.parse_laws.specs.way.Readers.{Reads, itself, longer}
use Rattle.parse_laws.specs.way.Members.{class_head_at, interface_head_at, result_type_at, method_head_at, constructor_head_at}
use Rattle.type_laws.specs.Laws.{Within, Sound, Exact, Complete, Longest, Unique, PassesSpelled, PassesEach, IsExact, IsAsLong, declared_height, SpellsPlainType, names_on, dims_on, references_on, types_on, plain_types_on, throws_on, extends_on, extends_all_on, implements_on, parameters_on, never}
use Rattle.parse_laws.specs.way.Readers.{SpellsReference, is_reference}
use Rattle.type_laws.specs.Heads.{SpellsClassHead, class_height, SpellsInterfaceHead, interface_height, SpellsMethodHead, method_height, SpellsConstructorHead, constructor_height}
use Rattle.parse_laws.proofs.Rules.{weaken, or_split, same_some}
use Rattle.type_laws.proofs.Names.{name_sound, name_exact, name_complete}
use Rattle.type_laws.proofs.Types.{Stops, IsType, type_sound, type_exact, type_complete, type_longest, IsReference, reference_sound, reference_exact, reference_longest, IsPlainType, plain_type_sound, plain_type_exact}
use Rattle.type_laws.proofs.Heads.{throws_exact, StopsRefs, AreImplements, implements_sound, implements_exact, AreExtends, extends_all_sound, extends_all_exact, IsSuperclass, superclass_sound, superclass_exact, IsFormal, formal_sound, formal_exact, AreAllFormals, formals_sound, formals_exact, AreAllParameters, parameters_sound, parameters_exact}
use Rattle.type_laws.proofs.Openings.{IsClassHead, class_head_sound, class_head_exact, IsInterfaceHead, interface_head_sound, interface_head_exact, IsResult, result_sound, result_exact, IsMethodHead, method_head_sound, method_head_exact, IsConstructorHead, constructor_head_sound, constructor_head_exact}

-- ---- from one form to another

-- what is read is one tree
pub unique_of : {T : Type 0} (spells : T → List Token → List Token → Type 0) (goes_on : List Token → Bool) (read : List Token → Read T) → Complete spells goes_on read → Unique spells goes_on
unique_of {T} spells goes_on read complete t u ts rest a b stops =
    ap (λ (x : T × List Token). x.0) (same_some (sym (complete t ts rest a stops) ∙ complete u ts rest b stops))

reads_of : {T : Type 0} {goes_on : Bool} {t : T} {rest : List Token} {o : Read T} → (x : T × List Token) × (o ≡ Some x) × IsExact goes_on t rest x → Reads o t rest (goes_on ≡ true)
reads_of {T} {goes_on} {t} {rest} {o} r = go r.0 r.1 r.2
  where
    go : (x : T × List Token) → o ≡ Some x → IsExact goes_on t rest x → Reads o t rest (goes_on ≡ true)
    go x e (inl f) = itself (e ∙ ap Some f)
    go x e (inr l) = longer e l.0 l.1

references_stop : (rest : List Token) → references_on rest ≡ false → (names_on rest ≡ false) × (is_symbol symbol.Less rest ≡ false)
references_stop rest stops = or_split (names_on rest) (is_symbol symbol.Less rest) stops

types_stop : (rest : List Token) → types_on rest ≡ false → Stops rest
types_stop rest stops =
    let a = or_split (references_on rest) (dims_on rest) stops in let b = references_stop rest a.0 in
    record { no_part = b.0; no_less = b.1; no_dims = a.1 }

refs_stop : (rest : List Token) → (references_on rest || is_symbol symbol.Comma rest) ≡ false → StopsRefs rest
refs_stop rest stops =
    let a = or_split (references_on rest) (is_symbol symbol.Comma rest) stops in let b = references_stop rest a.0 in
    record { no_part = b.0; no_less = b.1; no_more = a.1 }

-- ---- names and types

pub names_exact_law : Exact SpellsName names_on name_at
names_exact_law q ts rest m = reads_of (name_exact m)

names_complete_law : Complete SpellsName names_on name_at
names_complete_law q ts rest m stops = name_complete m stops

pub names_unique_law : Unique SpellsName names_on
names_unique_law = unique_of SpellsName names_on name_at names_complete_law

pub types_sound_law : (most : ℕ) → Sound (Within SpellsTypeName type_height most) (type_at most)
types_sound_law most ts = weaken (type_at most ts) (IsType most ts) (λ x. Within SpellsTypeName type_height most x.0 ts x.1) (type_sound most ts) (λ x g. (g.spelled, g.within))

pub types_exact_law : (most : ℕ) (t : TypeName) (ts rest : List Token) → Within SpellsTypeName type_height most t ts rest → references_on rest ≡ false → Reads (type_at most ts) t rest (dims_on rest ≡ true)
types_exact_law most t ts rest d stops = let b = references_stop rest stops in type_exact most t ts rest d.0 d.1 b.0 b.1

pub types_complete_law : (most : ℕ) → Complete (Within SpellsTypeName type_height most) types_on (type_at most)
types_complete_law most t ts rest d stops = type_complete most t ts rest d.0 d.1 (types_stop rest stops)

pub types_longest_law : (most : ℕ) → Longest (Within SpellsTypeName type_height most) (type_at most)
types_longest_law most t ts rest d = type_longest most d.0 d.1

pub types_unique_law : Unique SpellsTypeName types_on
types_unique_law t u ts rest a b stops =
    let most = max (type_height t) (type_height u) in
    unique_of (Within SpellsTypeName type_height most) types_on (type_at most) (types_complete_law most) t u ts rest (a, omega arith) (b, omega arith) stops

reference_whole : (most : ℕ) (ts : List Token) (x : TypeName × List Token) → IsReference most ts x → Within SpellsReference type_height most x.0 ts x.1
reference_whole most ts x r = subst (λ t. Within SpellsReference type_height most t ts x.1) (sym r.whole) (is_reference r.spelled, let a = r.within in omega arith)

pub references_sound_law : (most : ℕ) → Sound (Within SpellsReference type_height most) (reference_at most)
references_sound_law most ts =
    weaken (reference_at most ts) (IsReference most ts) (λ x. Within SpellsReference type_height most x.0 ts x.1) (reference_sound most ts) (λ x r. reference_whole most ts x r)

reference_complete : (most : ℕ) (t : TypeName) (ts rest : List Token) → SpellsReference t ts rest → type_height t ≤ most → references_on rest ≡ false → reference_at most ts ≡ Some (t, rest)
reference_complete most _ ts rest (is_reference r) low stops = let b = references_stop rest stops in reference_exact most r (omega arith) b.0 b.1

pub references_complete_law : (most : ℕ) → Complete (Within SpellsReference type_height most) references_on (reference_at most)
references_complete_law most t ts rest d stops = reference_complete most t ts rest d.0 d.1 stops

reference_long : (most : ℕ) (t : TypeName) (ts rest : List Token) → SpellsReference t ts rest → type_height t ≤ most → IfSome (reference_at most ts) (IsAsLong t rest)
reference_long most _ ts rest (is_reference r) low = reference_longest most r (omega arith)

pub references_longest_law : (most : ℕ) → Longest (Within SpellsReference type_height most) (reference_at most)
references_longest_law most t ts rest d = reference_long most t ts rest d.0 d.1

pub plain_types_sound_law : Sound SpellsPlainType plain_type_at
plain_types_sound_law ts = weaken (plain_type_at ts) (IsPlainType ts) (λ x. SpellsPlainType x.0 ts x.1) (plain_type_sound ts) (λ x g. (g.spelled, g.plain))

pub plain_types_exact_law : Exact SpellsPlainType plain_types_on plain_type_at
plain_types_exact_law t ts rest d = plain_type_exact t ts rest d.0 d.1

past_of : {T : Type 0} (spells : T → List Token → Type 0) (o : Read T) → IfSome o (λ x. spells x.0 x.1) → IfSome (option_map (λ x. x.1) o) (λ rest. (t : T) × spells t rest)
past_of spells (Some x) d = (x.0, d)
past_of spells None d = tt

pub past_types_sound_law : (most : ℕ) → PassesSpelled (Within SpellsTypeName type_height most) (past_type_at most)
unfolding past_type_at
past_types_sound_law most ts = past_of (λ t rest. Within SpellsTypeName type_height most t ts rest) (type_at most ts) (types_sound_law most ts)

pub past_types_exact_law : (most : ℕ) → PassesEach (Within SpellsTypeName type_height most) types_on (past_type_at most)
unfolding past_type_at
past_types_exact_law most t ts rest d stops = ap (λ (o : Read TypeName). option_map (λ x. x.1) o) (types_complete_law most t ts rest d stops)

pub past_names_sound_law : PassesSpelled SpellsName past_name_at
unfolding past_name_at
past_names_sound_law ts = past_of (λ q rest. SpellsName q ts rest) (name_at ts) (name_sound ts)

pub past_names_exact_law : PassesEach SpellsName names_on past_name_at
unfolding past_name_at
past_names_exact_law q ts rest m stops = ap (λ (o : Read QualifiedName). option_map (λ x. x.1) o) (name_complete m stops)

-- ---- parts of heads

pub formal_sound_law : (most : ℕ) → Sound (Within SpellsFormal declared_height most) (formal_at most)
formal_sound_law most ts = weaken (formal_at most ts) (IsFormal most ts) (λ x. Within SpellsFormal declared_height most x.0 ts x.1) (formal_sound most ts) (λ x g. (g.spelled, g.within))

pub formal_complete_law : (most : ℕ) → Complete (Within SpellsFormal declared_height most) dims_on (formal_at most)
formal_complete_law most f ts rest d stops = formal_exact most d.0 d.1 stops

pub formals_sound_law : (most : ℕ) → Sound (Within SpellsFormals formals_height most) (formals_at most)
formals_sound_law most ts = weaken (formals_at most ts) (AreAllFormals most ts) (λ x. Within SpellsFormals formals_height most x.0 ts x.1) (formals_sound most ts) (λ x g. (g.spelled, g.within))

pub formals_complete_law : (most : ℕ) → Complete (Within SpellsFormals formals_height most) never (formals_at most)
formals_complete_law most fs ts rest d stops = formals_exact most d.0 d.1

pub throws_complete_law : Complete SpellsThrows throws_on throws_at
throws_complete_law ns ts rest d stops =
    let a = or_split (is_word word.Throws rest) (names_on rest || is_symbol symbol.Comma rest) stops in let b = or_split (names_on rest) (is_symbol symbol.Comma rest) a.1 in
    throws_exact d a.0 b.0 b.1

pub parameters_sound_law : (most : ℕ) → Sound (Within SpellsTypeParameters parameters_height most) (parameters_at most)
parameters_sound_law most ts = weaken (parameters_at most ts) (AreAllParameters most ts) (λ x. Within SpellsTypeParameters parameters_height most x.0 ts x.1) (parameters_sound most ts) (λ x g. (g.spelled, g.within))

pub parameters_complete_law : (most : ℕ) → Complete (Within SpellsTypeParameters parameters_height most) parameters_on (parameters_at most)
parameters_complete_law most ps ts rest d stops = parameters_exact most d.0 d.1 stops

pub superclass_sound_law : (most : ℕ) → Sound (Within SpellsExtends type_height_if most) (superclass_at most)
superclass_sound_law most ts = weaken (superclass_at most ts) (IsSuperclass most ts) (λ x. Within SpellsExtends type_height_if most x.0 ts x.1) (superclass_sound most ts) (λ x g. (g.spelled, g.within))

pub superclass_complete_law : (most : ℕ) → Complete (Within SpellsExtends type_height_if most) extends_on (superclass_at most)
superclass_complete_law most e ts rest d stops =
    let a = or_split (is_word word.Extends rest) (references_on rest) stops in let b = references_stop rest a.1 in superclass_exact most d.0 d.1 a.0 b.0 b.1

pub implements_sound_law : (most : ℕ) → Sound (Within SpellsImplements types_height most) (references_at word.Implements most)
implements_sound_law most ts =
    weaken (references_at word.Implements most ts) (AreImplements most ts) (λ x. Within SpellsImplements types_height most x.0 ts x.1) (implements_sound most ts) (λ x g. (g.spelled, g.within))

pub implements_complete_law : (most : ℕ) → Complete (Within SpellsImplements types_height most) implements_on (references_at word.Implements most)
implements_complete_law most us ts rest d stops =
    let a = or_split (is_word word.Implements rest) (references_on rest || is_symbol symbol.Comma rest) stops in implements_exact most d.0 d.1 a.0 (refs_stop rest a.1)

pub extends_all_sound_law : (most : ℕ) → Sound (Within SpellsExtendsAll types_height most) (references_at word.Extends most)
extends_all_sound_law most ts =
    weaken (references_at word.Extends most ts) (AreExtends most ts) (λ x. Within SpellsExtendsAll types_height most x.0 ts x.1) (extends_all_sound most ts) (λ x g. (g.spelled, g.within))

pub extends_all_complete_law : (most : ℕ) → Complete (Within SpellsExtendsAll types_height most) extends_all_on (references_at word.Extends most)
extends_all_complete_law most us ts rest d stops =
    let a = or_split (is_word word.Extends rest) (references_on rest || is_symbol symbol.Comma rest) stops in extends_all_exact most d.0 d.1 a.0 (refs_stop rest a.1)

-- ---- heads

pub class_heads_sound_law : (most : ℕ) → Sound (Within SpellsClassHead class_height most) (class_head_at most)
class_heads_sound_law most ts = weaken (class_head_at most ts) (IsClassHead most ts) (λ x. Within SpellsClassHead class_height most x.0 ts x.1) (class_head_sound most ts) (λ x g. (g.spelled, g.within))

pub class_heads_complete_law : (most : ℕ) → Complete (Within SpellsClassHead class_height most) never (class_head_at most)
class_heads_complete_law most c ts rest d stops = class_head_exact most d.0 d.1

pub interface_heads_sound_law : (most : ℕ) → Sound (Within SpellsInterfaceHead interface_height most) (interface_head_at most)
interface_heads_sound_law most ts =
    weaken (interface_head_at most ts) (IsInterfaceHead most ts) (λ x. Within SpellsInterfaceHead interface_height most x.0 ts x.1) (interface_head_sound most ts) (λ x g. (g.spelled, g.within))

pub interface_heads_complete_law : (most : ℕ) → Complete (Within SpellsInterfaceHead interface_height most) never (interface_head_at most)
interface_heads_complete_law most c ts rest d stops = interface_head_exact most d.0 d.1

pub results_sound_law : (most : ℕ) → Sound (Within SpellsResult type_height_if most) (result_type_at most)
results_sound_law most ts = weaken (result_type_at most ts) (IsResult most ts) (λ x. Within SpellsResult type_height_if most x.0 ts x.1) (result_sound most ts) (λ x g. (g.spelled, g.within))

pub results_complete_law : (most : ℕ) → Complete (Within SpellsResult type_height_if most) types_on (result_type_at most)
results_complete_law most r ts rest d stops = result_exact most d.0 d.1 stops

pub method_heads_sound_law : (most : ℕ) → Sound (Within SpellsMethodHead method_height most) (method_head_at most)
method_heads_sound_law most ts = weaken (method_head_at most ts) (IsMethodHead most ts) (λ x. Within SpellsMethodHead method_height most x.0 ts x.1) (method_head_sound most ts) (λ x g. (g.spelled, g.within))

pub method_heads_complete_law : (most : ℕ) → Complete (Within SpellsMethodHead method_height most) throws_on (method_head_at most)
method_heads_complete_law most m ts rest d stops = method_head_exact most d.0 d.1 stops

pub constructor_heads_sound_law : (most : ℕ) → Sound (Within SpellsConstructorHead constructor_height most) (constructor_head_at most)
constructor_heads_sound_law most ts =
    weaken (constructor_head_at most ts) (IsConstructorHead most ts) (λ x. Within SpellsConstructorHead constructor_height most x.0 ts x.1) (constructor_head_sound most ts) (λ x g. (g.spelled, g.within))

pub constructor_heads_complete_law : (most : ℕ) → Complete (Within SpellsConstructorHead constructor_height most) never (constructor_head_at most)
constructor_heads_complete_law most c ts rest d stops = constructor_head_exact most d.0 d.1
