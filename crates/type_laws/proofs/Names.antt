-- Names, and brackets behind a type.
use Rattle.std.proofs.Common.{◌≡◌, ℕ, zero, suc, ◌+◌, ◌<◌, ◌≤◌, inl, inr, Bool, false, List, [], ◌∷◌, ◌++◌, length, Some, None, IfSome, refl, sym, ap, ◌∙◌, subst, arith, append_assoc}
use Rattle.je_base.specs.declared.span.Span.{Span}
use Rattle.je_token.specs.declared.symbol.Symbol.TheVariants as symbol
use Rattle.je_token.specs.declared.token.Token.{Token}
use Rattle.je_token.specs.declared.token.TokenKind.TheVariants as kind
use Rattle.je_ast.specs.declared.name.Identifier.{Identifier}
use Rattle.je_ast.specs.Types.{QualifiedName}
use Rattle.je_ast.specs.Spans.{join}
use Rattle.je_grammar.specs.Tokens.{it_is, IsSymbol, IsIdentifier, identifier, first_span}
use Rattle.je_grammar.specs.Types.{SpellsName, simple_name, qualified_name, SpellsDims, no_dims, more_dims}
use Rattle.parse_laws.specs.way.Tokens.{Read, with, is_some, behind, identifier_at}
use Rattle.parse_laws.specs.way.Types.{part_at, parts_at, name_at, pair_at, more_dims_at, dims_at}
use Rattle.type_laws.specs.Laws.{IsExact, IsExactDims, names_on, dims_on}
use Rattle.parse_laws.proofs.Rules.{bind, weaken}
use Rattle.type_laws.proofs.Rules.{either}
use Rattle.parse_laws.proofs.Fronts.{Front, front, behind_front}
use Rattle.type_laws.proofs.Fronts.{First, a_first, identifier_sound}

-- a point, an identifier, and the tokens behind them
pub data Part : List Token → Identifier → List Token → Type 0 where
  a_part : {d t : Token} {rest : List Token} → IsSymbol symbol.Dot d → IsIdentifier t → Part (d ∷ t ∷ rest) (identifier t) rest

part_of : {ts mid rest : List Token} {i : Identifier} → Front (kind.Symbol symbol.Dot) ts mid → First mid i rest → Part ts i rest
part_of (front d) (a_first i) = a_part d i

pub part_sound : (ts : List Token) → IfSome (part_at ts) (λ x. Part ts x.0 x.1)
part_sound ts =
    bind (behind symbol.Dot ts) _ (Front (kind.Symbol symbol.Dot) ts) (λ x. Part ts x.0 x.1) (behind_front (kind.Symbol symbol.Dot) ts)
    (λ mid b. weaken (identifier_at mid) (λ x. First mid x.0 x.1) (λ x. Part ts x.0 x.1) (identifier_sound mid) (λ x f. part_of b f))

pub part_less : {ts rest : List Token} {i : Identifier} → Part ts i rest → length rest < length ts
part_less (a_part d i) = omega arith

-- what a loop has read behind these identifiers and this span
record IsName (before : List Identifier) (s : Span) (ts : List Token) (x : QualifiedName × List Token) : Type 0 where
  q : QualifiedName
  spelled : SpellsName q ts x.1
  whole : x.0 ≡ record { parts = before ++ q.parts; span = join s q.span }

abbrev Names : ℕ → Type 0
Names n = (before : List Identifier) (s : Span) (t : Token) (ts : List Token) → IsIdentifier t → IsName before s (t ∷ ts) (parts_at n (before ++ identifier t ∷ []) (join s t.span) ts)

part_next : (n : ℕ) → Names n → (before : List Identifier) (s : Span) (t : Token) {ts rest : List Token} {j : Identifier} → IsIdentifier t → Part ts j rest →
    IsName before s (t ∷ ts) (parts_at n ((before ++ identifier t ∷ []) ++ j ∷ []) (join (join s t.span) j.span) rest)
part_next n names before s t i (a_part {t = u} {rest} d j) =
    let m = names (before ++ identifier t ∷ []) (join s t.span) u rest j in
    record {
      q = record { parts = identifier t ∷ m.q.parts; span = join t.span m.q.span };
      spelled = qualified_name i d m.spelled;
      whole = m.whole ∙ ap (λ (ps : List Identifier). record { parts = ps; span = join s (join t.span m.q.span) }) (append_assoc before (identifier t ∷ []) m.q.parts);
    }

only : (before : List Identifier) (s : Span) (t : Token) (ts : List Token) → IsIdentifier t → IsName before s (t ∷ ts) (record { parts = before ++ identifier t ∷ []; span = join s t.span }, ts)
only before s t ts i = record { q = record { parts = identifier t ∷ []; span = t.span }; spelled = simple_name i; whole = refl }

parts_sound : (n : ℕ) → Names n
unfolding parts_at
parts_sound zero before s t ts i = only before s t ts i
parts_sound (suc n) before s t ts i =
    either (part_at ts) _ _ (λ x. Part ts x.0 x.1) (IsName before s (t ∷ ts)) (part_sound ts)
    (λ x p. part_next n (parts_sound n) before s t i p) (λ e. only before s t ts i)

begins : {q : QualifiedName} {ts rest : List Token} → SpellsName q ts rest → join (first_span ts) q.span ≡ q.span
begins (simple_name i) = refl
begins (qualified_name i d n) = refl

name_whole : {t : Token} {ts : List Token} (x : QualifiedName × List Token) → IsName [] t.span (t ∷ ts) x → SpellsName x.0 (t ∷ ts) x.1
name_whole {t} {ts} x m = subst (λ q. SpellsName q (t ∷ ts) x.1) (sym (m.whole ∙ ap (λ (s : Span). record { parts = m.q.parts; span = s }) (begins m.spelled))) m.spelled

name_of : (n : ℕ) {ts rest : List Token} {i : Identifier} → First ts i rest → SpellsName (parts_at n (i ∷ []) i.span rest).0 ts (parts_at n (i ∷ []) i.span rest).1
name_of n (a_first {t} {rest} i) = name_whole (parts_at n (identifier t ∷ []) t.span rest) (parts_sound n [] t.span t rest i)

pub name_sound : (ts : List Token) → IfSome (name_at ts) (λ x. SpellsName x.0 ts x.1)
unfolding name_at
name_sound ts = bind (identifier_at ts) _ (λ x. First ts x.0 x.1) (λ x. SpellsName x.0 ts x.1) (identifier_sound ts) (λ x f. name_of (length ts) f)

parts_less : (n : ℕ) (before : List Identifier) (s : Span) (ts : List Token) → length (parts_at n before s ts).1 ≤ length ts
unfolding parts_at
parts_less zero before s ts = omega arith
parts_less (suc n) before s ts =
    either (part_at ts) _ _ (λ x. Part ts x.0 x.1) (λ (y : QualifiedName × List Token). length y.1 ≤ length ts) (part_sound ts)
    (λ x p. let a = parts_less n (before ++ x.0 ∷ []) (join s x.0.span) x.1 in let b = part_less p in omega arith) (λ e. omega arith)

parts_on : (n : ℕ) (before : List Identifier) (s : Span) (rest : List Token) → IsExact (names_on rest) (record { parts = before; span = s }) rest (parts_at n before s rest)
unfolding parts_at
parts_on zero before s rest = inl refl
parts_on (suc n) before s rest = go (part_at rest) (part_sound rest)
  where
    go : (o : Read Identifier) → IfSome o (λ x. Part rest x.0 x.1) →
        IsExact (is_some o) (record { parts = before; span = s }) rest (with o (λ x. parts_at n (before ++ x.0 ∷ []) (join s x.0.span) x.1) (record { parts = before; span = s }, rest))
    go None p = inl refl
    go (Some x) p = inr (let a = parts_less n (before ++ x.0 ∷ []) (join s x.0.span) x.1 in let b = part_less p in omega arith, refl)

first_identifier : {q : QualifiedName} {t : Token} {ts rest : List Token} → SpellsName q (t ∷ ts) rest → IsIdentifier t
first_identifier (simple_name i) = i
first_identifier (qualified_name i d m) = i

part_exact : {d t : Token} (ts : List Token) → IsSymbol symbol.Dot d → IsIdentifier t → part_at (d ∷ t ∷ ts) ≡ Some (identifier t, ts)
part_exact ts it_is it_is = refl

parts_exact : (n : ℕ) (before : List Identifier) (s : Span) {q : QualifiedName} {t : Token} {ts rest : List Token} → SpellsName q (t ∷ ts) rest → length ts ≤ n →
    IsExact (names_on rest) (record { parts = before ++ q.parts; span = join s q.span }) rest (parts_at n (before ++ identifier t ∷ []) (join s t.span) ts)
unfolding parts_at
parts_exact n before s (simple_name {t} {rest} i) enough = parts_on n (before ++ identifier t ∷ []) (join s t.span) rest
parts_exact n before s {rest} (qualified_name {t} {parts = ps} {s = e} {ts = []} i d m) enough = elim m [ ]
parts_exact zero before s {rest} (qualified_name {t} {parts = ps} {s = e} {ts = u ∷ us} i d m) enough = absurd (omega arith)
parts_exact (suc n) before s {rest} (qualified_name {t} {parts = ps} {s = e} {ts = u ∷ us} i d m) enough =
    let ih = parts_exact n (before ++ identifier t ∷ []) (join s t.span) m (omega arith) in
    let same : (before ++ identifier t ∷ []) ++ ps ≡ before ++ identifier t ∷ ps = append_assoc before (identifier t ∷ []) ps in
    rw (part_exact us d (first_identifier m))
    (subst (λ (qs : List Identifier). IsExact (names_on rest) (record { parts = qs; span = join s (join t.span e) }) rest
    (parts_at n ((before ++ identifier t ∷ []) ++ identifier u ∷ []) (join (join s t.span) u.span) us)) same ih)

-- what comes of a name, for one that the tokens spell
first_exact : {q : QualifiedName} {t : Token} {ts rest : List Token} → SpellsName q (t ∷ ts) rest → name_at (t ∷ ts) ≡ Some (parts_at (length (t ∷ ts)) (identifier t ∷ []) t.span ts)
unfolding name_at
first_exact (simple_name it_is) = refl
first_exact (qualified_name it_is d m) = refl

pub name_exact : {q : QualifiedName} {ts rest : List Token} → SpellsName q ts rest → (x : QualifiedName × List Token) × (name_at ts ≡ Some x) × IsExact (names_on rest) q rest x
name_exact {ts = []} m = elim m [ ]
name_exact {q} {ts = t ∷ ts} {rest} m = (
  parts_at (length (t ∷ ts)) (identifier t ∷ []) t.span ts,
  first_exact m,
  subst (λ (s : Span). IsExact (names_on rest) (record { parts = q.parts; span = s }) rest (parts_at (length (t ∷ ts)) (identifier t ∷ []) t.span ts)) (begins m)
      (parts_exact (length (t ∷ ts)) [] t.span m (omega arith)),
)

-- brackets

-- "[" "]", and the tokens behind them
pub data Pair : List Token → Span → List Token → Type 0 where
  a_pair : {o c : Token} {rest : List Token} → IsSymbol symbol.OpenBracket o → IsSymbol symbol.CloseBracket c → Pair (o ∷ c ∷ rest) c.span rest

pair_of : {ts mid rest : List Token} → Front (kind.Symbol symbol.OpenBracket) ts mid → Front (kind.Symbol symbol.CloseBracket) mid rest → Pair ts (first_span mid) rest
pair_of (front o) (front c) = a_pair o c

pub pair_sound : (ts : List Token) → IfSome (pair_at ts) (λ x. Pair ts x.0 x.1)
pair_sound ts =
    bind (behind symbol.OpenBracket ts) _ (Front (kind.Symbol symbol.OpenBracket) ts) (λ x. Pair ts x.0 x.1) (behind_front (kind.Symbol symbol.OpenBracket) ts)
    (λ mid b. bind (behind symbol.CloseBracket mid) _ (Front (kind.Symbol symbol.CloseBracket) mid) (λ x. Pair ts x.0 x.1) (behind_front (kind.Symbol symbol.CloseBracket) mid)
    (λ rest c. pair_of b c))

pub pair_less : {ts rest : List Token} {s : Span} → Pair ts s rest → length rest < length ts
pair_less (a_pair o c) = omega arith

pub pair_exact : {o c : Token} (rest : List Token) → IsSymbol symbol.OpenBracket o → IsSymbol symbol.CloseBracket c → pair_at (o ∷ c ∷ rest) ≡ Some (c.span, rest)
pair_exact rest it_is it_is = refl

-- so many brackets behind so many
record AreDims (count : ℕ) (s : Span) (ts : List Token) (y : ℕ × Span × List Token) : Type 0 where
  n : ℕ
  spelled : SpellsDims n s y.1 ts y.2
  whole : y.0 ≡ count + n

pair_next : (count : ℕ) (s : Span) {ts mid : List Token} {c : Span} (y : ℕ × Span × List Token) → Pair ts c mid → AreDims (suc count) (join s c) mid y → AreDims count s ts y
pair_next count s y (a_pair o c) m = record { n = suc m.n; spelled = more_dims o c m.spelled; whole = let w = m.whole in omega arith }

no_pair : (count : ℕ) (s : Span) (ts : List Token) → AreDims count s ts (count, s, ts)
no_pair count s ts = record { n = 0; spelled = no_dims; whole = omega arith }

more_dims_sound : (n count : ℕ) (s : Span) (ts : List Token) → AreDims count s ts (more_dims_at n count s ts)
unfolding more_dims_at
more_dims_sound zero count s ts = no_pair count s ts
more_dims_sound (suc n) count s ts =
    either (pair_at ts) _ _ (λ x. Pair ts x.0 x.1) (AreDims count s ts) (pair_sound ts)
    (λ x p. pair_next count s (more_dims_at n (suc count) (join s x.0) x.1) p (more_dims_sound n (suc count) (join s x.0) x.1)) (λ e. no_pair count s ts)

pub dims_sound : (s : Span) (ts : List Token) → SpellsDims (dims_at s ts).0 s (dims_at s ts).1 ts (dims_at s ts).2
unfolding dims_at
dims_sound s ts =
    let y = more_dims_at (length ts) 0 s ts in
    let m = more_dims_sound (length ts) 0 s ts in
    let same : m.n ≡ y.0 = (let w = m.whole in omega arith) in
    subst (λ (k : ℕ). SpellsDims k s y.1 ts y.2) same m.spelled

more_dims_less : (n count : ℕ) (s : Span) (ts : List Token) → length (more_dims_at n count s ts).2 ≤ length ts
unfolding more_dims_at
more_dims_less zero count s ts = omega arith
more_dims_less (suc n) count s ts =
    either (pair_at ts) _ _ (λ x. Pair ts x.0 x.1) (λ (y : ℕ × Span × List Token). length y.2 ≤ length ts) (pair_sound ts)
    (λ x p. let a = more_dims_less n (suc count) (join s x.0) x.1 in let b = pair_less p in omega arith) (λ e. omega arith)

pub dims_less : (s : Span) (ts : List Token) → length (dims_at s ts).2 ≤ length ts
unfolding dims_at
dims_less s ts = more_dims_less (length ts) 0 s ts

more_dims_on : (n count : ℕ) (s : Span) (rest : List Token) → IsExactDims (dims_on rest) count s rest (more_dims_at n count s rest)
unfolding more_dims_at
more_dims_on zero count s rest = inl refl
more_dims_on (suc n) count s rest = go (pair_at rest) (pair_sound rest)
  where
    go : (o : Read Span) → IfSome o (λ x. Pair rest x.0 x.1) → IsExactDims (is_some o) count s rest (with o (λ x. more_dims_at n (suc count) (join s x.0) x.1) (count, s, rest))
    go None p = inl refl
    go (Some x) p = inr (let a = more_dims_less n (suc count) (join s x.0) x.1 in let b = pair_less p in omega arith, refl)

more_dims_exact : (m count : ℕ) {n : ℕ} {s e : Span} {ts rest : List Token} → SpellsDims n s e ts rest → length ts ≤ m → IsExactDims (dims_on rest) (count + n) e rest (more_dims_at m count s ts)
unfolding more_dims_at
more_dims_exact m count {s = s} {rest} no_dims enough =
    let same : count ≡ count + 0 = omega arith in
    subst (λ (k : ℕ). IsExactDims (dims_on rest) k s rest (more_dims_at m count s rest)) same (more_dims_on m count s rest)
more_dims_exact zero count (more_dims o c d) enough = absurd (omega arith)
more_dims_exact (suc m) count {rest} (more_dims {n} {s} {e} {o = p} {c = q} {ts} o c d) enough =
    let same : suc count + n ≡ count + suc n = omega arith in
    rw (pair_exact ts o c)
    (subst (λ (k : ℕ). IsExactDims (dims_on rest) k e rest (more_dims_at m (suc count) (join s q.span) ts)) same (more_dims_exact m (suc count) d (omega arith)))

pub dims_exact : {n : ℕ} {s e : Span} {ts rest : List Token} → SpellsDims n s e ts rest → IsExactDims (dims_on rest) n e rest (dims_at s ts)
unfolding dims_at
dims_exact {n} {s} {e} {ts} {rest} d =
    let same : 0 + n ≡ n = omega arith in
    subst (λ (k : ℕ). IsExactDims (dims_on rest) k e rest (more_dims_at (length ts) 0 s ts)) same (more_dims_exact (length ts) 0 d (omega arith))

-- where nothing goes on

exactly : {T : Type 0} (goes_on : Bool) (t : T) (rest : List Token) (x : T × List Token) → IsExact goes_on t rest x → goes_on ≡ false → x ≡ (t, rest)
exactly goes_on t rest x (inl e) stops = e
exactly goes_on t rest x (inr l) stops = absurd cc

pub name_complete : {q : QualifiedName} {ts rest : List Token} → SpellsName q ts rest → names_on rest ≡ false → name_at ts ≡ Some (q, rest)
name_complete {q} {ts} {rest} m stops = let x = name_exact m in x.1 ∙ ap Some (exactly (names_on rest) q rest x.0 x.2 stops)

exactly_dims : (goes_on : Bool) (n : ℕ) (e : Span) (rest : List Token) (y : ℕ × Span × List Token) → IsExactDims goes_on n e rest y → goes_on ≡ false → y ≡ (n, e, rest)
exactly_dims goes_on n e rest y (inl q) stops = q
exactly_dims goes_on n e rest y (inr l) stops = absurd cc

pub dims_complete : {n : ℕ} {s e : Span} {ts rest : List Token} → SpellsDims n s e ts rest → dims_on rest ≡ false → dims_at s ts ≡ (n, e, rest)
dims_complete {n} {s} {e} {ts} {rest} d stops = exactly_dims (dims_on rest) n e rest (dims_at s ts) (dims_exact d) stops

-- a name is at least one token long
pub name_less : {q : QualifiedName} {ts rest : List Token} → SpellsName q ts rest → length rest < length ts
name_less (simple_name i) = omega arith
name_less (qualified_name i d m) = let a = name_less m in omega arith
