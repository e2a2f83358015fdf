-- Lists of names and types, formal parameters, type parameters, and what stands in heads.
use Rattle.std.proofs.Common.{◌≡◌, ℕ, zero, suc, ◌<◌, ◌≤◌, max, Bool, true, false, List, [], ◌∷◌, ◌++◌, length, Option, Some, None, IfSome, refl, sym, ap, ◌∙◌, subst, arith, append_assoc}
use Rattle.je_base.specs.declared.span.Span.{Span}
use Rattle.je_token.specs.declared.keyword.Keyword.TheVariants as word
use Rattle.je_token.specs.declared.symbol.Symbol.TheVariants as symbol
use Rattle.je_token.specs.declared.token.Token.{Token}
use Rattle.je_token.specs.declared.token.TokenKind.TheVariants as kind
use Rattle.je_ast.specs.declared.name.Identifier.{Identifier}
use Rattle.je_ast.specs.declared.ty_name.Primitive.TheVariants as prim
use Rattle.je_ast.specs.Types.{QualifiedName, TypeName, TypeNames, class_type, no_types, more_types, TypeParameter, FormalParameter, type_height, types_height}
use Rattle.je_ast.specs.Height.{type_height_if, parameters_height, formals_height}
use Rattle.je_grammar.specs.Tokens.{it_is, identifier, Closes, one_closes, first_of_two, first_of_three}
use Rattle.je_grammar.specs.Types.{SpellsName, SpellsNames, last_name, more_names, SpellsDims, reference_type, SpellsRef, SpellsRefs, last_ref, more_refs, SpellsTypeParameter, plain_parameter, bounded_parameter, SpellsMoreTypeParameters, last_parameter, more_parameters, SpellsTypeParameters, no_parameters, some_parameters, SpellsFinal, not_final, is_final, SpellsFormal, formal, SpellsMoreFormals, last_formal, more_formals, SpellsFormals, no_formals, some_formals, SpellsThrows, no_throws, some_throws}
use Rattle.je_grammar.specs.Grammar.{SpellsExtends, no_extends, some_extends, SpellsImplements, no_implements, some_implements, SpellsExtendsAll, extends_nothing, extends_all}
use Rattle.je_grammar.proofs.AtLeastOne.{types_spell_some}
use Rattle.parse_laws.specs.way.Tokens.{Read, ◌>>=◌, behind, behind_word, is_symbol, is_word, identifier_at, closes_at}
use Rattle.parse_laws.specs.way.Types.{name_at, more_names_at, names_at, dims_at, type_names, type_at, reference_at, final_at, formal_at, more_formals_at, formals_at, throws_at, parameter_at, more_parameters_at, parameters_at, superclass_at, more_references_at, references_at}
use Rattle.type_laws.specs.Laws.{names_on, dims_on}
use Rattle.parse_laws.proofs.Rules.{bind, weaken, is_none}
use Rattle.type_laws.proofs.Rules.{either}
use Rattle.parse_laws.proofs.Fronts.{Front, front, behind_front}
use Rattle.type_laws.proofs.Fronts.{First, a_first, identifier_sound, closes_sound, closes_exact}
use Rattle.type_laws.proofs.Names.{name_sound, name_complete, name_less, dims_sound, dims_complete}
use Rattle.type_laws.proofs.Types.{TypeFront, primitive_front, name_front, type_begins, IsType, type_sound, type_complete, IsReference, reference_sound, reference_exact, no_comma, types_of, types_back}

-- ---- names between commas

record AreNames (before : List QualifiedName) (ts : List Token) (x : List QualifiedName × List Token) : Type 0 where
  list : List QualifiedName
  whole : x.0 ≡ before ++ list
  spelled : SpellsNames list ts x.1

names_more : (before : List QualifiedName) {q : QualifiedName} {ts all mid : List Token} (y : List QualifiedName × List Token) →
    SpellsName q ts all → Front (kind.Symbol symbol.Comma) all mid → AreNames (before ++ q ∷ []) mid y → AreNames before ts y
names_more before {q} y m (front k) a = record {
  list = q ∷ a.list;
  whole = a.whole ∙ append_assoc before (q ∷ []) a.list;
  spelled = more_names m k a.spelled;
}

more_names_sound : (n : ℕ) (before : List QualifiedName) (q : QualifiedName) (ts all : List Token) → SpellsName q ts all → IfSome (more_names_at n (before ++ q ∷ []) all) (AreNames before ts)
unfolding more_names_at
more_names_sound zero before q ts all m = record { list = q ∷ []; whole = refl; spelled = last_name m }
more_names_sound (suc n) before q ts all m =
    either (behind symbol.Comma all) _ _ (Front (kind.Symbol symbol.Comma) all) (λ o. IfSome o (AreNames before ts)) (behind_front (kind.Symbol symbol.Comma) all)
    (λ mid k. bind (name_at mid) _ (λ x. SpellsName x.0 mid x.1) (AreNames before ts) (name_sound mid)
    (λ x l. weaken (more_names_at n ((before ++ q ∷ []) ++ x.0 ∷ []) x.1) (AreNames (before ++ q ∷ []) mid) (AreNames before ts) (more_names_sound n (before ++ q ∷ []) x.0 mid x.1 l)
    (λ y a. names_more before y m k a)))
    (λ e. record { list = q ∷ []; whole = refl; spelled = last_name m })

pub names_sound : (ts : List Token) → IfSome (names_at ts) (λ x. SpellsNames x.0 ts x.1)
unfolding names_at
names_sound ts =
    bind (name_at ts) _ (λ x. SpellsName x.0 ts x.1) (λ x. SpellsNames x.0 ts x.1) (name_sound ts)
    (λ x m. weaken (more_names_at (length ts) (x.0 ∷ []) x.1) (AreNames [] ts) (λ x. SpellsNames x.0 ts x.1) (more_names_sound (length ts) [] x.0 ts x.1 m)
    (λ y a. subst (λ ns. SpellsNames ns ts y.1) (sym a.whole) a.spelled))

names_stop : (n : ℕ) (before : List QualifiedName) (rest : List Token) → is_symbol symbol.Comma rest ≡ false → more_names_at n before rest ≡ Some (before, rest)
unfolding more_names_at
names_stop zero before rest e = refl
names_stop (suc n) before rest e = rw (is_none (behind symbol.Comma rest) e) refl

all_names : (n : ℕ) (before : List QualifiedName) {ns : List QualifiedName} {ts rest : List Token} → SpellsNames ns ts rest → names_on rest ≡ false → is_symbol symbol.Comma rest ≡ false → length ts ≤ n →
    (name_at ts >>= λ x. more_names_at n (before ++ x.0 ∷ []) x.1) ≡ Some (before ++ ns, rest)
unfolding more_names_at
all_names n before (last_name {n = q} {rest} m) part comma enough = rw (name_complete m part) (names_stop n (before ++ q ∷ []) rest comma)
all_names zero before (more_names m k ms) part comma enough = let a = name_less m in absurd (omega arith)
all_names (suc n) before (more_names {n = q} {ns} {mid = mid} {rest} m it_is ms) part comma enough =
    let a = name_less m in
    rw (name_complete m refl)
    (all_names n (before ++ q ∷ []) ms part comma (omega arith) ∙ ap (λ (xs : List QualifiedName). Some (xs, rest)) (append_assoc before (q ∷ []) ns))

pub names_exact : {ns : List QualifiedName} {ts rest : List Token} → SpellsNames ns ts rest → names_on rest ≡ false → is_symbol symbol.Comma rest ≡ false → names_at ts ≡ Some (ns, rest)
unfolding names_at
names_exact {ts = ts} ms part comma = all_names (length ts) [] ms part comma (omega arith)

throws_of : {ts mid : List Token} {ns : List QualifiedName} (rest : List Token) → Front (kind.Keyword word.Throws) ts mid → SpellsNames ns mid rest → SpellsThrows ns ts rest
throws_of rest (front w) m = some_throws w m

pub throws_sound : (ts : List Token) → IfSome (throws_at ts) (λ x. SpellsThrows x.0 ts x.1)
unfolding throws_at
throws_sound ts =
    either (behind_word word.Throws ts) _ _ (Front (kind.Keyword word.Throws) ts) (λ (o : Read (List QualifiedName)). IfSome o (λ x. SpellsThrows x.0 ts x.1)) (behind_front (kind.Keyword word.Throws) ts)
    (λ mid w. weaken (names_at mid) (λ x. SpellsNames x.0 mid x.1) (λ x. SpellsThrows x.0 ts x.1) (names_sound mid) (λ x m. throws_of x.1 w m))
    (λ e. no_throws)

pub throws_exact : {ns : List QualifiedName} {ts rest : List Token} → SpellsThrows ns ts rest → is_word word.Throws rest ≡ false → names_on rest ≡ false → is_symbol symbol.Comma rest ≡ false → throws_at ts ≡ Some (ns, rest)
unfolding throws_at
throws_exact {rest = rest} no_throws throws part comma = rw (is_none (behind_word word.Throws rest) throws) refl
throws_exact (some_throws it_is m) throws part comma = names_exact m part comma

-- ---- references between commas

record AreReferences (h : ℕ) (before : List TypeName) (ts : List Token) (x : TypeNames × List Token) : Type 0 where
  list : List TypeName
  whole : x.0 ≡ type_names (before ++ list)
  spelled : SpellsRefs (type_names list) ts x.1
  within : types_height (type_names list) ≤ h

last_reference : (h : ℕ) (before : List TypeName) (ts : List Token) (x : TypeName × List Token) → IsReference h ts x → AreReferences h before ts (type_names (before ++ x.0 ∷ []), x.1)
last_reference h before ts x r = record {
  list = x.0 ∷ [];
  whole = refl;
  spelled = subst (λ t. SpellsRefs (more_types t no_types) ts x.1) (sym r.whole) (last_ref r.spelled);
  within = subst (λ t. max (type_height t) 0 ≤ h) (sym r.whole) (let a = r.within in omega arith);
}

references_more : (h : ℕ) (before : List TypeName) {t : TypeName} {ts all mid : List Token} (y : TypeNames × List Token) →
    IsReference h ts (t, all) → Front (kind.Symbol symbol.Comma) all mid → AreReferences h (before ++ t ∷ []) mid y → AreReferences h before ts y
references_more h before {t} {ts} y r (front k) a = record {
  list = t ∷ a.list;
  whole = a.whole ∙ ap type_names (append_assoc before (t ∷ []) a.list);
  spelled = subst (λ u. SpellsRefs (more_types u (type_names a.list)) ts y.1) (sym r.whole) (more_refs r.spelled k a.spelled);
  within = subst (λ u. max (type_height u) (types_height (type_names a.list)) ≤ h) (sym r.whole) (let b = r.within in let c = a.within in omega arith);
}

more_references_sound : (n h : ℕ) (before : List TypeName) (ts : List Token) → IfSome (more_references_at n h before ts) (AreReferences h before ts)
unfolding more_references_at
more_references_sound zero h before ts = tt
more_references_sound (suc n) h before ts =
    bind (reference_at h ts) _ (IsReference h ts) (AreReferences h before ts) (reference_sound h ts)
    (λ x r. either (behind symbol.Comma x.1) _ _ (Front (kind.Symbol symbol.Comma) x.1) (λ o. IfSome o (AreReferences h before ts)) (behind_front (kind.Symbol symbol.Comma) x.1)
    (λ mid k. weaken (more_references_at n h (before ++ x.0 ∷ []) mid) (AreReferences h (before ++ x.0 ∷ []) mid) (AreReferences h before ts) (more_references_sound n h (before ++ x.0 ∷ []) mid)
    (λ y a. references_more h before y r k a))
    (λ e. last_reference h before ts x r))

pub record AreRefs (h : ℕ) (ts : List Token) (x : TypeNames × List Token) : Type 0 where
  pub spelled : SpellsRefs x.0 ts x.1
  pub within : types_height x.0 ≤ h

refs_sound : (n h : ℕ) (ts : List Token) → IfSome (more_references_at n h [] ts) (AreRefs h ts)
refs_sound n h ts =
    weaken (more_references_at n h [] ts) (AreReferences h [] ts) (AreRefs h ts) (more_references_sound n h [] ts)
    (λ y a. record { spelled = subst (λ us. SpellsRefs us ts y.1) (sym a.whole) a.spelled; within = subst (λ us. types_height us ≤ h) (sym a.whole) a.within })

reference_less : {n : QualifiedName} {us : TypeNames} {s : Span} {ts rest : List Token} → SpellsRef n us s ts rest → length rest < length ts
reference_less {n} {us} {s} {ts} {rest} r = types_spell_some (class_type n us 0 s) ts rest (reference_type r SpellsDims.no_dims)

-- what doesn't go on with references
pub record StopsRefs (rest : List Token) : Type 0 where
  pub no_part : names_on rest ≡ false
  pub no_less : is_symbol symbol.Less rest ≡ false
  pub no_more : is_symbol symbol.Comma rest ≡ false

more_references_exact : (n h : ℕ) (before : List TypeName) {us : TypeNames} {ts rest : List Token} → SpellsRefs us ts rest → types_height us ≤ h → StopsRefs rest → length ts ≤ n →
    more_references_at n h before ts ≡ Some (type_names (before ++ types_of us), rest)
unfolding more_references_at types_of
more_references_exact zero h before (last_ref r) low stops enough = let a = reference_less r in absurd (omega arith)
more_references_exact zero h before (more_refs r k rs) low stops enough = let a = reference_less r in absurd (omega arith)
more_references_exact (suc n) h before {rest = rest} (last_ref r) low stops enough =
    rw (reference_exact h r (omega arith) stops.no_part stops.no_less, is_none (behind symbol.Comma rest) stops.no_more) refl
more_references_exact (suc n) h before {rest = rest} (more_refs {n = q} {args} {us} {s} {mid = mid} r it_is rs) low stops enough =
    let a = reference_less r in
    rw (reference_exact h r (omega arith) refl refl)
    (more_references_exact n h (before ++ class_type q args 0 s ∷ []) rs (omega arith) stops (omega arith)
    ∙ ap (λ (xs : List TypeName). Some (type_names xs, rest)) (append_assoc before (class_type q args 0 s ∷ []) (types_of us)))

pub refs_exact : (n h : ℕ) {us : TypeNames} {ts rest : List Token} → SpellsRefs us ts rest → types_height us ≤ h → StopsRefs rest → length ts ≤ n → more_references_at n h [] ts ≡ Some (us, rest)
refs_exact n h {us} {ts} {rest} rs low stops enough = more_references_exact n h [] rs low stops enough ∙ ap (λ (xs : TypeNames). Some (xs, rest)) (types_back us)

pub record AreImplements (h : ℕ) (ts : List Token) (x : TypeNames × List Token) : Type 0 where
  pub spelled : SpellsImplements x.0 ts x.1
  pub within : types_height x.0 ≤ h

pub record AreExtends (h : ℕ) (ts : List Token) (x : TypeNames × List Token) : Type 0 where
  pub spelled : SpellsExtendsAll x.0 ts x.1
  pub within : types_height x.0 ≤ h

implements_of : (h : ℕ) {ts mid : List Token} (y : TypeNames × List Token) → Front (kind.Keyword word.Implements) ts mid → AreRefs h mid y → AreImplements h ts y
implements_of h y (front w) a = record { spelled = some_implements w a.spelled; within = a.within }

extends_of : (h : ℕ) {ts mid : List Token} (y : TypeNames × List Token) → Front (kind.Keyword word.Extends) ts mid → AreRefs h mid y → AreExtends h ts y
extends_of h y (front w) a = record { spelled = extends_all w a.spelled; within = a.within }

pub implements_sound : (h : ℕ) (ts : List Token) → IfSome (references_at word.Implements h ts) (AreImplements h ts)
unfolding references_at
implements_sound h ts =
    either (behind_word word.Implements ts) _ _ (Front (kind.Keyword word.Implements) ts) (λ o. IfSome o (AreImplements h ts)) (behind_front (kind.Keyword word.Implements) ts)
    (λ mid w. weaken (more_references_at (length ts) h [] mid) (AreRefs h mid) (AreImplements h ts) (refs_sound (length ts) h mid) (λ y a. implements_of h y w a))
    (λ e. record { spelled = no_implements; within = omega arith })

pub extends_all_sound : (h : ℕ) (ts : List Token) → IfSome (references_at word.Extends h ts) (AreExtends h ts)
unfolding references_at
extends_all_sound h ts =
    either (behind_word word.Extends ts) _ _ (Front (kind.Keyword word.Extends) ts) (λ o. IfSome o (AreExtends h ts)) (behind_front (kind.Keyword word.Extends) ts)
    (λ mid w. weaken (more_references_at (length ts) h [] mid) (AreRefs h mid) (AreExtends h ts) (refs_sound (length ts) h mid) (λ y a. extends_of h y w a))
    (λ e. record { spelled = extends_nothing; within = omega arith })

pub implements_exact : (h : ℕ) {us : TypeNames} {ts rest : List Token} → SpellsImplements us ts rest → types_height us ≤ h → is_word word.Implements rest ≡ false → StopsRefs rest → references_at word.Implements h ts ≡ Some (us, rest)
unfolding references_at
implements_exact h {rest = rest} no_implements low absent stops = rw (is_none (behind_word word.Implements rest) absent) refl
implements_exact h (some_implements {ts = ts} it_is rs) low absent stops = refs_exact (suc (length ts)) h rs low stops (omega arith)

pub extends_all_exact : (h : ℕ) {us : TypeNames} {ts rest : List Token} → SpellsExtendsAll us ts rest → types_height us ≤ h → is_word word.Extends rest ≡ false → StopsRefs rest → references_at word.Extends h ts ≡ Some (us, rest)
unfolding references_at
extends_all_exact h {rest = rest} extends_nothing low absent stops = rw (is_none (behind_word word.Extends rest) absent) refl
extends_all_exact h (extends_all {ts = ts} it_is rs) low absent stops = refs_exact (suc (length ts)) h rs low stops (omega arith)

-- ---- a superclass

pub record IsSuperclass (h : ℕ) (ts : List Token) (x : Option TypeName × List Token) : Type 0 where
  pub spelled : SpellsExtends x.0 ts x.1
  pub within : type_height_if x.0 ≤ h

superclass_of : (h : ℕ) {ts mid : List Token} (x : TypeName × List Token) → Front (kind.Keyword word.Extends) ts mid → IsReference h mid x → IsSuperclass h ts (Some x.0, x.1)
superclass_of h {ts} x (front {rest = mid} w) r = record {
  spelled = subst (λ t. SpellsExtends (Some t) ts x.1) (sym r.whole) (some_extends w r.spelled);
  within = subst (λ t. type_height t ≤ h) (sym r.whole) (let a = r.within in omega arith);
}

pub superclass_sound : (h : ℕ) (ts : List Token) → IfSome (superclass_at h ts) (IsSuperclass h ts)
unfolding superclass_at
superclass_sound h ts =
    either (behind_word word.Extends ts) _ _ (Front (kind.Keyword word.Extends) ts) (λ o. IfSome o (IsSuperclass h ts)) (behind_front (kind.Keyword word.Extends) ts)
    (λ mid w. bind (reference_at h mid) _ (IsReference h mid) (IsSuperclass h ts) (reference_sound h mid) (λ x r. superclass_of h x w r))
    (λ e. record { spelled = no_extends; within = omega arith })

pub superclass_exact : (h : ℕ) {e : Option TypeName} {ts rest : List Token} → SpellsExtends e ts rest → type_height_if e ≤ h → is_word word.Extends rest ≡ false →
    names_on rest ≡ false → is_symbol symbol.Less rest ≡ false → superclass_at h ts ≡ Some (e, rest)
unfolding superclass_at
superclass_exact h {rest = rest} no_extends low absent part less = rw (is_none (behind_word word.Extends rest) absent) refl
superclass_exact h (some_extends it_is r) low absent part less = rw (reference_exact h r (omega arith) part less) refl

-- ---- formal parameters

final_of : {ts rest : List Token} → Front (kind.Keyword word.Final) ts rest → SpellsFinal true ts rest
final_of (front w) = is_final w

pub final_sound : (ts : List Token) → SpellsFinal (final_at ts).0 ts (final_at ts).1
final_sound ts =
    either (behind_word word.Final ts) _ _ (Front (kind.Keyword word.Final) ts) (λ (x : Bool × List Token). SpellsFinal x.0 ts x.1) (behind_front (kind.Keyword word.Final) ts)
    (λ rest w. final_of w) (λ e. not_final)

pub final_exact : {m : Bool} {ts rest : List Token} → SpellsFinal m ts rest → is_word word.Final rest ≡ false → final_at ts ≡ (m, rest)
final_exact {rest = rest} not_final absent = rw (is_none (behind_word word.Final rest) absent) refl
final_exact (is_final it_is) absent = refl

pub not_final_word : {ts : List Token} → TypeFront ts → is_word word.Final ts ≡ false
not_final_word (primitive_front prim.Boolean it_is) = refl
not_final_word (primitive_front prim.Byte it_is) = refl
not_final_word (primitive_front prim.Short it_is) = refl
not_final_word (primitive_front prim.Char it_is) = refl
not_final_word (primitive_front prim.Int it_is) = refl
not_final_word (primitive_front prim.Long it_is) = refl
not_final_word (name_front it_is) = refl

pub record IsFormal (h : ℕ) (ts : List Token) (x : FormalParameter × List Token) : Type 0 where
  pub spelled : SpellsFormal x.0 ts x.1
  pub within : type_height x.0.declared ≤ h

formal_of : (h : ℕ) (m : Bool) (ts mid : List Token) (t : TypeName) {all last : List Token} {i : Identifier} → SpellsFinal m ts mid → IsType h mid (t, all) → First all i last →
    IsFormal h ts (record { is_final = m; declared = t; name = i; dims = (dims_at i.span last).0 }, (dims_at i.span last).2)
formal_of h m ts mid t f g (a_first {t = n} {rest = last} i) = record { spelled = formal f g.spelled i (dims_sound n.span last); within = g.within }

pub formal_sound : (h : ℕ) (ts : List Token) → IfSome (formal_at h ts) (IsFormal h ts)
unfolding formal_at
formal_sound h ts =
    let f = final_at ts in
    bind (type_at h f.1) _ (IsType h f.1) (IsFormal h ts) (type_sound h f.1)
    (λ t g. bind (identifier_at t.1) _ (λ x. First t.1 x.0 x.1) (IsFormal h ts) (identifier_sound t.1)
    (λ x i. formal_of h f.0 ts f.1 t.0 (final_sound ts) g i))

pub formal_exact : (h : ℕ) {f : FormalParameter} {ts rest : List Token} → SpellsFormal f ts rest → type_height f.declared ≤ h → dims_on rest ≡ false → formal_at h ts ≡ Some (f, rest)
unfolding formal_at
formal_exact h (formal {m} {ty} {t} {n} {s} {ts} {mid} {last} {rest} f d it_is e) low stops =
    rw (final_exact f (not_final_word (type_begins d)), type_complete h ty mid (t ∷ last) d low (record { no_part = refl; no_less = refl; no_dims = refl }), dims_complete e stops) refl

record AreFormals (h : ℕ) (before : List FormalParameter) (ts : List Token) (x : List FormalParameter × List Token) : Type 0 where
  list : List FormalParameter
  whole : x.0 ≡ before ++ list
  spelled : SpellsMoreFormals list ts x.1
  within : formals_height list ≤ h

formals_more : (h : ℕ) (before : List FormalParameter) {f : FormalParameter} {ts all mid : List Token} (y : List FormalParameter × List Token) →
    IsFormal h ts (f, all) → Front (kind.Symbol symbol.Comma) all mid → AreFormals h (before ++ f ∷ []) mid y → AreFormals h before ts y
formals_more h before {f} y r (front k) a = record {
  list = f ∷ a.list;
  whole = a.whole ∙ append_assoc before (f ∷ []) a.list;
  spelled = more_formals r.spelled k a.spelled;
  within = let b = r.within in let c = a.within in omega arith;
}

formals_last : (h : ℕ) (before : List FormalParameter) {f : FormalParameter} {ts all rest : List Token} →
    IsFormal h ts (f, all) → Front (kind.Symbol symbol.CloseParen) all rest → AreFormals h before ts (before ++ f ∷ [], rest)
formals_last h before {f} r (front c) = record { list = f ∷ []; whole = refl; spelled = last_formal r.spelled c; within = let b = r.within in omega arith }

more_formals_sound : (n h : ℕ) (before : List FormalParameter) (ts : List Token) → IfSome (more_formals_at n h before ts) (AreFormals h before ts)
unfolding more_formals_at
more_formals_sound zero h before ts = tt
more_formals_sound (suc n) h before ts =
    bind (formal_at h ts) _ (IsFormal h ts) (AreFormals h before ts) (formal_sound h ts)
    (λ x r. either (behind symbol.Comma x.1) _ _ (Front (kind.Symbol symbol.Comma) x.1) (λ o. IfSome o (AreFormals h before ts)) (behind_front (kind.Symbol symbol.Comma) x.1)
    (λ mid k. weaken (more_formals_at n h (before ++ x.0 ∷ []) mid) (AreFormals h (before ++ x.0 ∷ []) mid) (AreFormals h before ts) (more_formals_sound n h (before ++ x.0 ∷ []) mid)
    (λ y a. formals_more h before y r k a))
    (λ e. bind (behind symbol.CloseParen x.1) _ (Front (kind.Symbol symbol.CloseParen) x.1) (AreFormals h before ts) (behind_front (kind.Symbol symbol.CloseParen) x.1)
    (λ rest c. formals_last h before r c)))

pub record AreAllFormals (h : ℕ) (ts : List Token) (x : List FormalParameter × List Token) : Type 0 where
  pub spelled : SpellsFormals x.0 ts x.1
  pub within : formals_height x.0 ≤ h

formals_none : (h : ℕ) {ts inside rest : List Token} → Front (kind.Symbol symbol.OpenParen) ts inside → Front (kind.Symbol symbol.CloseParen) inside rest → AreAllFormals h ts ([], rest)
formals_none h (front o) (front c) = record { spelled = no_formals o c; within = omega arith }

formals_some : (h : ℕ) {ts inside : List Token} (y : List FormalParameter × List Token) → Front (kind.Symbol symbol.OpenParen) ts inside → AreFormals h [] inside y → AreAllFormals h ts y
formals_some h {ts} {inside} y (front o) a = record {
  spelled = subst (λ fs. SpellsFormals fs ts y.1) (sym a.whole) (some_formals o a.spelled);
  within = subst (λ fs. formals_height fs ≤ h) (sym a.whole) a.within;
}

pub formals_sound : (h : ℕ) (ts : List Token) → IfSome (formals_at h ts) (AreAllFormals h ts)
unfolding formals_at
formals_sound h ts =
    bind (behind symbol.OpenParen ts) _ (Front (kind.Symbol symbol.OpenParen) ts) (AreAllFormals h ts) (behind_front (kind.Symbol symbol.OpenParen) ts)
    (λ inside o. either (behind symbol.CloseParen inside) _ _ (Front (kind.Symbol symbol.CloseParen) inside) (λ r. IfSome r (AreAllFormals h ts)) (behind_front (kind.Symbol symbol.CloseParen) inside)
    (λ rest c. formals_none h o c)
    (λ e. weaken (more_formals_at (length inside) h [] inside) (AreFormals h [] inside) (AreAllFormals h ts) (more_formals_sound (length inside) h [] inside)
    (λ y a. formals_some h y o a)))

final_shorter : {m : Bool} {ts rest : List Token} → SpellsFinal m ts rest → length rest ≤ length ts
final_shorter not_final = omega arith
final_shorter (is_final w) = omega arith

dims_shorter : {n : ℕ} {s e : Span} {ts rest : List Token} → SpellsDims n s e ts rest → length rest ≤ length ts
dims_shorter SpellsDims.no_dims = omega arith
dims_shorter (SpellsDims.more_dims o c d) = let a = dims_shorter d in omega arith

formal_less : {f : FormalParameter} {ts rest : List Token} → SpellsFormal f ts rest → length rest < length ts
formal_less (formal {ty = ty} {t} {mid = mid} {last} f d i e) =
    let a = final_shorter f in let b = types_spell_some ty mid (t ∷ last) d in let c = dims_shorter e in omega arith

more_formals_exact : (n h : ℕ) (before : List FormalParameter) {fs : List FormalParameter} {ts rest : List Token} → SpellsMoreFormals fs ts rest → formals_height fs ≤ h → length ts ≤ n →
    more_formals_at n h before ts ≡ Some (before ++ fs, rest)
unfolding more_formals_at
more_formals_exact zero h before (last_formal f c) low enough = let a = formal_less f in absurd (omega arith)
more_formals_exact zero h before (more_formals f k fs) low enough = let a = formal_less f in absurd (omega arith)
more_formals_exact (suc n) h before (last_formal f it_is) low enough = rw (formal_exact h f (omega arith) refl) refl
more_formals_exact (suc n) h before (more_formals {f = g} {fs} {mid = mid} {rest} f it_is m) low enough =
    let a = formal_less f in
    rw (formal_exact h f (omega arith) refl)
    (more_formals_exact n h (before ++ g ∷ []) m (omega arith) (omega arith) ∙ ap (λ (xs : List FormalParameter). Some (xs, rest)) (append_assoc before (g ∷ []) fs))

not_closing : {ts : List Token} → TypeFront ts → behind symbol.CloseParen ts ≡ None
not_closing (primitive_front prim.Boolean it_is) = refl
not_closing (primitive_front prim.Byte it_is) = refl
not_closing (primitive_front prim.Short it_is) = refl
not_closing (primitive_front prim.Char it_is) = refl
not_closing (primitive_front prim.Int it_is) = refl
not_closing (primitive_front prim.Long it_is) = refl
not_closing (name_front it_is) = refl

formal_not_closing : {f : FormalParameter} {ts rest : List Token} → SpellsFormal f ts rest → behind symbol.CloseParen ts ≡ None
formal_not_closing (formal not_final d i e) = not_closing (type_begins d)
formal_not_closing (formal (is_final it_is) d i e) = refl

formals_not_closing : {fs : List FormalParameter} {ts rest : List Token} → SpellsMoreFormals fs ts rest → behind symbol.CloseParen ts ≡ None
formals_not_closing (last_formal f c) = formal_not_closing f
formals_not_closing (more_formals f k m) = formal_not_closing f

pub formals_exact : (h : ℕ) {fs : List FormalParameter} {ts rest : List Token} → SpellsFormals fs ts rest → formals_height fs ≤ h → formals_at h ts ≡ Some (fs, rest)
unfolding formals_at
formals_exact h (no_formals it_is it_is) low = refl
formals_exact h (some_formals {ts = ts} it_is m) low = rw (formals_not_closing m) (more_formals_exact (length ts) h [] m low (omega arith))

-- ---- type parameters

pub record IsParameter (h : ℕ) (ts : List Token) (x : TypeParameter × List Token) : Type 0 where
  pub spelled : SpellsTypeParameter x.0 ts x.1
  pub within : type_height_if x.0.bound ≤ h

parameter_plain : (h : ℕ) {ts rest : List Token} {i : Identifier} → First ts i rest → IsParameter h ts (record { name = i; bound = None }, rest)
parameter_plain h (a_first i) = record { spelled = plain_parameter i; within = omega arith }

parameter_bounded : (h : ℕ) {ts all mid : List Token} {i : Identifier} (b : TypeName × List Token) → First ts i all → Front (kind.Keyword word.Extends) all mid → IsReference h mid b →
    IsParameter h ts (record { name = i; bound = Some b.0 }, b.1)
parameter_bounded h b (a_first {t} i) (front {t = w} {rest = mid} e) r = record {
  spelled = subst (λ (u : TypeName). SpellsTypeParameter (record { name = identifier t; bound = Some u }) (t ∷ w ∷ mid) b.1) (sym r.whole) (bounded_parameter i e r.spelled);
  within = subst (λ u. type_height u ≤ h) (sym r.whole) (let a = r.within in omega arith);
}

pub parameter_sound : (h : ℕ) (ts : List Token) → IfSome (parameter_at h ts) (IsParameter h ts)
unfolding parameter_at
parameter_sound h ts =
    bind (identifier_at ts) _ (λ x. First ts x.0 x.1) (IsParameter h ts) (identifier_sound ts)
    (λ x i. either (behind_word word.Extends x.1) _ _ (Front (kind.Keyword word.Extends) x.1) (λ o. IfSome o (IsParameter h ts)) (behind_front (kind.Keyword word.Extends) x.1)
    (λ mid w. bind (reference_at h mid) _ (IsReference h mid) (IsParameter h ts) (reference_sound h mid) (λ b r. parameter_bounded h b i w r))
    (λ e. parameter_plain h i))

parameter_exact : (h : ℕ) {p : TypeParameter} {ts rest : List Token} → SpellsTypeParameter p ts rest → type_height_if p.bound ≤ h → is_word word.Extends rest ≡ false →
    names_on rest ≡ false → is_symbol symbol.Less rest ≡ false → parameter_at h ts ≡ Some (p, rest)
unfolding parameter_at
parameter_exact h {rest = rest} (plain_parameter it_is) low absent part less = rw (is_none (behind_word word.Extends rest) absent) refl
parameter_exact h (bounded_parameter it_is it_is r) low absent part less = rw (reference_exact h r (omega arith) part less) refl

record AreParameters (h : ℕ) (before : List TypeParameter) (ts : List Token) (x : List TypeParameter × List Token) : Type 0 where
  list : List TypeParameter
  whole : x.0 ≡ before ++ list
  spelled : SpellsMoreTypeParameters list ts x.1
  within : parameters_height list ≤ h

parameters_more : (h : ℕ) (before : List TypeParameter) {p : TypeParameter} {ts all mid : List Token} (y : List TypeParameter × List Token) →
    IsParameter h ts (p, all) → Front (kind.Symbol symbol.Comma) all mid → AreParameters h (before ++ p ∷ []) mid y → AreParameters h before ts y
parameters_more h before {p} y r (front k) a = record {
  list = p ∷ a.list;
  whole = a.whole ∙ append_assoc before (p ∷ []) a.list;
  spelled = more_parameters r.spelled k a.spelled;
  within = let b = r.within in let c = a.within in omega arith;
}

more_parameters_sound : (n h : ℕ) (before : List TypeParameter) (ts : List Token) → IfSome (more_parameters_at n h before ts) (AreParameters h before ts)
unfolding more_parameters_at
more_parameters_sound zero h before ts = tt
more_parameters_sound (suc n) h before ts =
    bind (parameter_at h ts) _ (IsParameter h ts) (AreParameters h before ts) (parameter_sound h ts)
    (λ x r. either (behind symbol.Comma x.1) _ _ (Front (kind.Symbol symbol.Comma) x.1) (λ o. IfSome o (AreParameters h before ts)) (behind_front (kind.Symbol symbol.Comma) x.1)
    (λ mid k. weaken (more_parameters_at n h (before ++ x.0 ∷ []) mid) (AreParameters h (before ++ x.0 ∷ []) mid) (AreParameters h before ts) (more_parameters_sound n h (before ++ x.0 ∷ []) mid)
    (λ y a. parameters_more h before y r k a))
    (λ e. bind (closes_at x.1) _ (λ c. Closes c.0 x.1 c.1) (AreParameters h before ts) (closes_sound x.1)
    (λ c d. record { list = x.0 ∷ []; whole = refl; spelled = last_parameter r.spelled d; within = let b = r.within in omega arith })))

pub record AreAllParameters (h : ℕ) (ts : List Token) (x : List TypeParameter × List Token) : Type 0 where
  pub spelled : SpellsTypeParameters x.0 ts x.1
  pub within : parameters_height x.0 ≤ h

parameters_of : (h : ℕ) {ts inside : List Token} (y : List TypeParameter × List Token) → Front (kind.Symbol symbol.Less) ts inside → AreParameters h [] inside y → AreAllParameters h ts y
parameters_of h {ts} y (front o) a = record {
  spelled = subst (λ ps. SpellsTypeParameters ps ts y.1) (sym a.whole) (some_parameters o a.spelled);
  within = subst (λ ps. parameters_height ps ≤ h) (sym a.whole) a.within;
}

pub parameters_sound : (h : ℕ) (ts : List Token) → IfSome (parameters_at h ts) (AreAllParameters h ts)
unfolding parameters_at
parameters_sound h ts =
    either (behind symbol.Less ts) _ _ (Front (kind.Symbol symbol.Less) ts) (λ o. IfSome o (AreAllParameters h ts)) (behind_front (kind.Symbol symbol.Less) ts)
    (λ inside o. weaken (more_parameters_at (length ts) h [] inside) (AreParameters h [] inside) (AreAllParameters h ts) (more_parameters_sound (length ts) h [] inside)
    (λ y a. parameters_of h y o a))
    (λ e. record { spelled = no_parameters; within = omega arith })

record StopsParameter (rest : List Token) : Type 0 where
  no_bound : is_word word.Extends rest ≡ false
  no_part : names_on rest ≡ false
  no_less : is_symbol symbol.Less rest ≡ false

closing_parameter : {c : Span} {ts rest : List Token} → Closes c ts rest → StopsParameter ts
closing_parameter (one_closes it_is) = record { no_bound = refl; no_part = refl; no_less = refl }
closing_parameter (first_of_two it_is) = record { no_bound = refl; no_part = refl; no_less = refl }
closing_parameter (first_of_three it_is) = record { no_bound = refl; no_part = refl; no_less = refl }

parameter_less : {p : TypeParameter} {ts rest : List Token} → SpellsTypeParameter p ts rest → length rest < length ts
parameter_less (plain_parameter i) = omega arith
parameter_less (bounded_parameter i w r) = let a = reference_less r in omega arith

more_parameters_exact : (n h : ℕ) (before : List TypeParameter) {ps : List TypeParameter} {ts rest : List Token} → SpellsMoreTypeParameters ps ts rest → parameters_height ps ≤ h → length ts ≤ n →
    more_parameters_at n h before ts ≡ Some (before ++ ps, rest)
unfolding more_parameters_at
more_parameters_exact zero h before (last_parameter p c) low enough = let a = parameter_less p in absurd (omega arith)
more_parameters_exact zero h before (more_parameters p k m) low enough = let a = parameter_less p in absurd (omega arith)
more_parameters_exact (suc n) h before (last_parameter p c) low enough =
    let s = closing_parameter c in
    rw (parameter_exact h p (omega arith) s.no_bound s.no_part s.no_less, no_comma c, closes_exact c) refl
more_parameters_exact (suc n) h before (more_parameters {p = q} {ps} {mid = mid} {rest} p it_is m) low enough =
    let a = parameter_less p in
    rw (parameter_exact h p (omega arith) refl refl refl)
    (more_parameters_exact n h (before ++ q ∷ []) m (omega arith) (omega arith) ∙ ap (λ (xs : List TypeParameter). Some (xs, rest)) (append_assoc before (q ∷ []) ps))

pub parameters_exact : (h : ℕ) {ps : List TypeParameter} {ts rest : List Token} → SpellsTypeParameters ps ts rest → parameters_height ps ≤ h → is_symbol symbol.Less rest ≡ false →
    parameters_at h ts ≡ Some (ps, rest)
unfolding parameters_at
parameters_exact h {rest = rest} no_parameters low less = rw (is_none (behind symbol.Less rest) less) refl
parameters_exact h (some_parameters {ts = ts} it_is m) low less = more_parameters_exact (suc (length ts)) h [] m low (omega arith)
