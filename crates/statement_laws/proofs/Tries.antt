-- `try` is read where it is spelled, or something longer where a `catch` or `finally` follows.
use Rattle.std.proofs.Common.{◌≡◌, ℕ, zero, suc, ◌<◌, ◌≤◌, Bool, true, false, cond, List, [], ◌∷◌, ◌++◌, length, Some, None, IfSome, refl, sym, ap, ◌∙◌, subst, arith, append_assoc}
use Rattle.std.proofs.lemmas.List.{append-nil}
use Rattle.je_base.specs.declared.span.Span.{Span}
use Rattle.je_token.specs.declared.keyword.Keyword.TheVariants as word
use Rattle.je_token.specs.declared.symbol.Symbol.TheVariants as symbol
use Rattle.je_token.specs.declared.token.Token.{Token}
use Rattle.je_token.specs.declared.token.TokenKind.TheVariants as kind
use Rattle.je_ast.specs.Types.{QualifiedName}
use Rattle.je_ast.specs.Trees.{Statement, Statements, Catches}
use Rattle.je_ast.specs.Trees as tree
use Rattle.je_ast.specs.Height.{statements_height, catches_height}
use Rattle.je_ast.specs.Spans.{join}
use Rattle.je_grammar.specs.Tokens.{it_is, IsWord, IsSymbol, IsIdentifier, identifier, first_span}
use Rattle.je_grammar.specs.Types.{SpellsName, simple_name, qualified_name}
use Rattle.je_grammar.specs.Context.{has_catch}
use Rattle.je_grammar.specs.Grammar.{SpellsBlock, SpellsCatches, no_catches, more_catches}
use Rattle.parse_laws.specs.way.Tokens.{Read, with, is_word}
use Rattle.parse_laws.specs.way.Types.{name_at, final_at}
use Rattle.parse_laws.specs.way.Below.{Below, BlockTree}
use Rattle.parse_laws.specs.way.Readers.{IsBelow, IsRead, Reads, itself, longer, continues, GoesOn, SpellsBlockTree, is_block_tree, block_tree_height}
use Rattle.parse_laws.specs.way.Statements.{CatchTree, catches, catch_at, catches_at, finally_at, try_at}
use Rattle.parse_laws.proofs.Rules.{weaken}
use Rattle.parse_laws.proofs.Fronts.{Front, front}
use Rattle.expression_laws.proofs.Primaries.{front_of}
use Rattle.type_laws.proofs.Names.{name_complete}
use Rattle.type_laws.proofs.Heads.{final_exact}
use Rattle.je_grammar.proofs.Sizes.{size-SpellsFinal, size-SpellsCatches, size-SpellsBlock, size-SpellsName}
use Rattle.statement_laws.proofs.Lists.{IsCatch, is_catch, catch_sound, catches_sound}
use Rattle.statement_laws.proofs.Sound.{finally_sound}

abbrev catches_of : Catches → List CatchTree
catches_of tree.no_catches = []
catches_of (tree.more_catches m n x o bs c cs) = record { is_final = m; class = n; name = x; block = record { opening = o; statements = bs; closing = c } } ∷ catches_of cs

same_catches : (cs : Catches) → catches (catches_of cs) ≡ cs
same_catches tree.no_catches = refl
same_catches (tree.more_catches m n x o bs c cs) = ap (tree.more_catches m n x o bs c) (same_catches cs)

-- these catches up to this rest, or, where a `catch` goes on with them, more that leave fewer tokens
data Caught (cs : Catches) (e : Span) (rest : List Token) (o : Catches × Span × List Token) : Type 0 where
  caught : o ≡ (cs, e, rest) → Caught cs e rest o
  more_caught : has_catch o.0 ≡ true → length o.2 < length rest → is_word word.Catch rest ≡ true → Caught cs e rest o

some_caught : (before items : List CatchTree) (x : CatchTree) → has_catch (catches ((before ++ x ∷ []) ++ items)) ≡ true
some_caught [] items x = refl
some_caught (y ∷ ys) items x = refl

name_no_final : {n : QualifiedName} {ts rest : List Token} → SpellsName n ts rest → is_word word.Final ts ≡ false
name_no_final (simple_name it_is) = refl
name_no_final (qualified_name it_is d m) = refl

identifier_no_part : {n : QualifiedName} {t : Token} {ts rest : List Token} → SpellsName n ts (t ∷ rest) → IsIdentifier t → name_at ts ≡ Some (n, t ∷ rest)
identifier_no_part m it_is = name_complete m refl

-- what stands first where something goes on
catch_goes_by : {rest mid : List Token} → Front (kind.Keyword word.Catch) rest mid → (continues rest ≡ true) × (is_word word.Else rest ≡ false)
catch_goes_by (front it_is) = (refl, refl)

catch_goes : (rest : List Token) → is_word word.Catch rest ≡ true → (continues rest ≡ true) × (is_word word.Else rest ≡ false)
catch_goes rest e = catch_goes_by (front_of (kind.Keyword word.Catch) rest e).1

finally_goes : {rest mid : List Token} → Front (kind.Keyword word.Finally) rest mid → (continues rest ≡ true) × (is_word word.Else rest ≡ false) × (length mid < length rest)
finally_goes (front it_is) = (refl, refl, omega arith)

module _ (names texts : List (List ℕ)) (h : ℕ) (p : Below) (below : IsBelow names texts h p) where
  block_whole : {b : BlockTree} {ts rest : List Token} → SpellsBlockTree names texts b ts rest → block_tree_height b ≤ h → p.block ts ≡ Some (b, rest)
  block_whole {b} {ts} {rest} d low = elim (below.block.exact b ts rest d tt low) [
    | itself q ↦ q
    | longer q lt goes ↦ absurd goes
  ]

  -- ---- catches

  catch_front : {c : CatchTree} {ts rest : List Token} → IsCatch names texts c ts rest → (is_word word.Catch ts ≡ true) × (length rest < length ts)
  catch_front (is_catch it_is o f n t k b d) = (refl, let l = size-SpellsBlock names texts d in let g = size-SpellsName n in let u = size-SpellsFinal f in omega arith)

  catch_by : {w o t k : Token} {m : Bool} {n : QualifiedName} {b : BlockTree} (ts : List Token) {mid last rest : List Token} → IsWord word.Catch w → IsSymbol symbol.OpenParen o → final_at ts ≡ (m, mid) → name_at mid ≡ Some (n, t ∷ k ∷ last) → IsIdentifier t →
      IsSymbol symbol.CloseParen k → p.block last ≡ Some (b, rest) → catch_at h p (w ∷ o ∷ ts) ≡ Some (record { is_final = m; class = n; name = identifier t; block = b }, rest)
  unfolding catch_at
  catch_by ts it_is it_is f n it_is it_is b = rw (f, n, b) refl

  catch_step : (n : ℕ) (before : List CatchTree) (s : Span) {c : CatchTree} (ts mid : List Token) → catch_at h p ts ≡ Some (c, mid) → catches_at h p (suc n) before s ts ≡ catches_at h p n (before ++ c ∷ []) c.block.closing mid
  unfolding catches_at
  catch_step n before s ts mid e = rw e refl

  no_catch_step : (n : ℕ) (before : List CatchTree) (s : Span) (ts : List Token) → catch_at h p ts ≡ None → catches_at h p (suc n) before s ts ≡ (catches before, s, ts)
  unfolding catches_at
  no_catch_step n before s ts e = rw e refl

  none_read : (before : List CatchTree) (s : Span) (ts : List Token) → catches_at h p zero before s ts ≡ (catches before, s, ts)
  unfolding catches_at
  none_read before s ts = refl

  no_catches_left : (before : List CatchTree) (s : Span) (ts : List Token) (o : Catches × Span × List Token) → o ≡ (catches before, s, ts) → Caught (catches (before ++ [])) s ts o
  no_catches_left before s ts o e = caught (e ∙ ap (λ (xs : List CatchTree). (catches xs, s, ts)) (sym (append-nil before)))

  more_left : (n : ℕ) (before : List CatchTree) (s : Span) (ts : List Token) (o : Read CatchTree) → catch_at h p ts ≡ o → IfSome o (IsRead (IsCatch names texts) (λ c. block_tree_height c.block) (λ _. Unit {0}) h ts) → Caught (catches (before ++ [])) s ts (catches_at h p (suc n) before s ts)
  more_left n before s ts None e g = no_catches_left before s ts _ (no_catch_step n before s ts e)
  more_left n before s ts (Some (x, mid)) e g =
      let a = catch_front g.spelled in
      let v = catches_sound names texts h p below n (before ++ x ∷ []) x.block.closing mid in
      let z = size-SpellsCatches names texts v.spelled in
      rw (catch_step n before s ts mid e) (more_caught (rw v.whole (some_caught before v.items x)) (let b = a.1 in omega arith) a.0)

  catches_exact : (n : ℕ) (before : List CatchTree) {cs : Catches} {s e : Span} {ts rest : List Token} → SpellsCatches names texts cs s e ts rest → catches_height cs ≤ h → length ts ≤ n →
      Caught (catches (before ++ catches_of cs)) e rest (catches_at h p n before s ts)
  catches_exact zero before (more_catches w o f m t k b d r) low le = absurd (omega arith)
  catches_exact zero before {s = s} {ts = ts} no_catches low le = no_catches_left before s ts _ (none_read before s ts)
  catches_exact (suc n) before {s = s} {ts = ts} no_catches low le = more_left n before s ts (catch_at h p ts) refl (catch_sound names texts h p below ts)
  catches_exact (suc n) before {e = e} {rest = rest} (more_catches {w} {o} {t} {b = b} {m} {n = q} {bs} {cs} {s} {c} {ts = ts} {next = next} i j f d x y z l r) low le =
      let one : CatchTree = record { is_final = m; class = q; name = identifier t; block = record { opening = b.span; statements = bs; closing = c } } in
      let a = size-SpellsBlock names texts l in
      let g = size-SpellsName d in
      rw (catch_step n before s (w ∷ o ∷ ts) next (catch_by ts i j (final_exact f (name_no_final d)) (identifier_no_part d x) x y (block_whole (is_block_tree z l) (omega arith))))
      (subst (λ (xs : List CatchTree). Caught (catches xs) e rest (catches_at h p n (before ++ one ∷ []) c next)) (append_assoc before (one ∷ []) (catches_of cs)) (catches_exact n (before ++ one ∷ []) r (omega arith) (let u = size-SpellsFinal f in omega arith)))

  caught_all : {bs : Catches} {s e : Span} {ts rest : List Token} → SpellsCatches names texts bs s e ts rest → catches_height bs ≤ h → Caught bs e rest (catches_at h p (length ts) [] s ts)
  caught_all {bs} {s} {e} {ts} {rest} d low = subst (λ (xs : Catches). Caught xs e rest (catches_at h p (length ts) [] s ts)) (same_catches bs) (catches_exact (length ts) [] d low (omega arith))

  -- ---- the whole

  abbrev with_finally : Span → BlockTree → Catches × Span × List Token → BlockTree × List Token → Statement × List Token
  with_finally w b cs l = (tree.try_finally w b.opening b.statements b.closing cs.0 (first_span cs.2) l.0.opening l.0.statements l.0.closing (join w l.0.closing), l.1)

  abbrev without_finally : Span → BlockTree → Catches × Span × List Token → Read Statement
  without_finally w b cs = cond (has_catch cs.0) (Some (tree.try w b.opening b.statements b.closing cs.0 (join w cs.1), cs.2)) None

  try_by : (w : Span) (b : BlockTree) (ts mid : List Token) (o : Catches × Span × List Token) → p.block ts ≡ Some (b, mid) → catches_at h p (length mid) [] b.closing mid ≡ o →
      try_at h p w ts ≡ with (finally_at h p o.2) (λ l. Some (with_finally w b o l)) (without_finally w b o)
  unfolding try_at
  try_by w b ts mid o e f = rw (e, f) refl

  abbrev FinallyGoes : List Token → BlockTree × List Token → Type 0
  FinallyGoes ts l = (continues ts ≡ true) × (is_word word.Else ts ≡ false) × (length l.1 < length ts)

  finally_facts : (ts : List Token) → IfSome (finally_at h p ts) (FinallyGoes ts)
  finally_facts ts = weaken (finally_at h p ts) _ (FinallyGoes ts) (finally_sound names texts h p below ts) (λ l g. go g.1 g.2.spelled)
    where
      go : {l : BlockTree × List Token} {mid : List Token} → Front (kind.Keyword word.Finally) ts mid → SpellsBlockTree names texts l.0 mid l.1 → FinallyGoes ts l
      go f (is_block_tree o d) = let a = finally_goes f in let s = size-SpellsBlock names texts d in (a.0, a.1, let z = a.2 in omega arith)

  -- behind all its catches
  tried : (w : Span) (b : BlockTree) (cs : Catches) (e : Span) (rest : List Token) (o : Read BlockTree) → has_catch cs ≡ true → IfSome o (FinallyGoes rest) →
      Reads (with o (λ l. Some (with_finally w b (cs, e, rest) l)) (without_finally w b (cs, e, rest))) (tree.try w b.opening b.statements b.closing cs (join w e)) rest (GoesOn (tree.try w b.opening b.statements b.closing cs (join w e)) rest)
  tried w b cs e rest (Some l) c g = longer refl g.2 (g.0, λ k. let a = g.1 in absurd cc)
  tried w b cs e rest None c g = rw c (itself refl)

  -- behind more of them
  tried_more : (w : Span) (b : BlockTree) (cs : Catches) (e : Span) (rest : List Token) (x : Catches × Span × List Token) (o : Read BlockTree) → has_catch x.0 ≡ true → length x.2 < length rest → is_word word.Catch rest ≡ true → IfSome o (FinallyGoes x.2) →
      Reads (with o (λ l. Some (with_finally w b x l)) (without_finally w b x)) (tree.try w b.opening b.statements b.closing cs (join w e)) rest (GoesOn (tree.try w b.opening b.statements b.closing cs (join w e)) rest)
  tried_more w b cs e rest x (Some l) c lt k g = let a = catch_goes rest k in longer refl (let z = g.2 in omega arith) (a.0, λ i. let n = a.1 in absurd cc)
  tried_more w b cs e rest x None c lt k g = let a = catch_goes rest k in rw c (longer refl lt (a.0, λ i. let n = a.1 in absurd cc))

  pub try_exact : (w : Span) {o : Token} {bs : Statements} {cs : Catches} {c e : Span} {ts mid rest : List Token} → has_catch cs ≡ true → IsSymbol symbol.OpenBrace o → SpellsBlock names texts bs c ts mid → statements_height bs < h → SpellsCatches names texts cs c e mid rest → catches_height cs ≤ h →
      Reads (try_at h p w (o ∷ ts)) (tree.try w o.span bs c cs (join w e)) rest (GoesOn (tree.try w o.span bs c cs (join w e)) rest)
  try_exact w {o} {bs} {cs} {c} {e} {ts} {mid} {rest} k i d low l m = go (catches_at h p (length mid) [] c mid) refl (caught_all l m)
    where
      b : BlockTree
      b = record { opening = o.span; statements = bs; closing = c }

      go : (x : Catches × Span × List Token) → catches_at h p (length mid) [] c mid ≡ x → Caught cs e rest x → Reads (try_at h p w (o ∷ ts)) (tree.try w o.span bs c cs (join w e)) rest (GoesOn (tree.try w o.span bs c cs (join w e)) rest)
      go x f (caught q) = rw (try_by w b (o ∷ ts) mid (cs, e, rest) (block_whole (is_block_tree i d) (omega arith)) (f ∙ q)) (tried w b cs e rest (finally_at h p rest) k (finally_facts rest))
      go x f (more_caught n lt g) = rw (try_by w b (o ∷ ts) mid x (block_whole (is_block_tree i d) (omega arith)) f) (tried_more w b cs e rest x (finally_at h p x.2) n lt g (finally_facts x.2))

  finally_by : {f : Token} {b : BlockTree} (ts : List Token) {rest : List Token} → IsWord word.Finally f → p.block ts ≡ Some (b, rest) → finally_at h p (f ∷ ts) ≡ Some (b, rest)
  unfolding finally_at
  finally_by ts it_is e = e

  no_catch_at : {f : Token} (ts : List Token) → IsWord word.Finally f → is_word word.Catch (f ∷ ts) ≡ false
  no_catch_at ts it_is = refl

  pub try_finally_exact : (w : Span) {o f k : Token} {bs ls : Statements} {cs : Catches} {c e q : Span} {ts mid last rest : List Token} → IsSymbol symbol.OpenBrace o → SpellsBlock names texts bs c ts mid → statements_height bs < h → SpellsCatches names texts cs c e mid (f ∷ k ∷ last) → catches_height cs ≤ h →
      IsWord word.Finally f → IsSymbol symbol.OpenBrace k → SpellsBlock names texts ls q last rest → statements_height ls < h →
      try_at h p w (o ∷ ts) ≡ Some (tree.try_finally w o.span bs c cs f.span k.span ls q (join w q), rest)
  try_finally_exact w {o} {f} {k} {bs} {ls} {cs} {c} {e} {q} {ts} {mid} {last} {rest} i d low l m n g z r = go (catches_at h p (length mid) [] c mid) refl (caught_all l m)
    where
      b : BlockTree
      b = record { opening = o.span; statements = bs; closing = c }

      go : (x : Catches × Span × List Token) → catches_at h p (length mid) [] c mid ≡ x → Caught cs e (f ∷ k ∷ last) x → try_at h p w (o ∷ ts) ≡ Some (tree.try_finally w o.span bs c cs f.span k.span ls q (join w q), rest)
      go x j (caught y) = rw (try_by w b (o ∷ ts) mid (cs, e, f ∷ k ∷ last) (block_whole (is_block_tree i d) (omega arith)) (j ∙ y), finally_by (k ∷ last) n (block_whole (is_block_tree g z) (omega arith))) refl
      go x j (more_caught u lt y) = absurd (let v = no_catch_at (k ∷ last) n in cc)
