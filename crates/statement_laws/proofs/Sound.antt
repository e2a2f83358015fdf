-- What is read as a statement is spelled, and is no higher than was asked.
use Rattle.std.proofs.Common.{◌≡◌, ℕ, suc, Bool, true, false, List, [], ◌∷◌, length, Option, Some, None, IfSome, refl, arith, cond, ◌||◌}
use Rattle.je_base.specs.declared.span.Span.{Span}
use Rattle.je_token.specs.declared.keyword.Keyword.TheVariants as word
use Rattle.je_token.specs.declared.symbol.Symbol.{Symbol}
use Rattle.je_token.specs.declared.symbol.Symbol.TheVariants as symbol
use Rattle.je_token.specs.declared.token.Token.{Token}
use Rattle.je_token.specs.declared.token.TokenKind.{TokenKind}
use Rattle.je_token.specs.declared.token.TokenKind.TheVariants as kind
use Rattle.je_ast.specs.declared.name.Identifier.{Identifier}
use Rattle.je_ast.specs.Types.{TypeName, type_height}
use Rattle.je_ast.specs.Trees.{Expression, Expressions, MaybeExpression, Statement, Statements, ForInitializer, Variables, Groups, Catches}
use Rattle.je_ast.specs.Trees as tree
use Rattle.je_ast.specs.Height.{height, height_if, statement_height, statements_height, for_initializer_height, variables_height}
use Rattle.je_ast.specs.Spans.{join, statement_span}
use Rattle.je_grammar.specs.Tokens.{IsWord, first_span}
use Rattle.je_grammar.specs.Types.{SpellsFinal, SpellsTypeName}
use Rattle.je_grammar.specs.Context.{is_step, ends_short, has_catch}
use Rattle.je_grammar.specs.Grammar.{Spells, SpellsVariables, SpellsMaybe, nothing, something, SpellsMaybeSteps, SpellsForInitializer, for_locals, for_steps, SpellsMaybeLabel, no_label, a_label, SpellsCondition, condition, SpellsBlock, SpellsGroups, SpellsCatches, SpellsBlockStatement, is_local}
use Rattle.je_grammar.specs.Grammar.{SpellsStatement, is_block, is_empty, is_labelled, is_if_only, is_if_else, is_while, is_do, is_for, is_for_each, is_switch, is_break, is_continue, is_return, is_throw, is_try, is_try_finally, is_expression_statement}
use Rattle.parse_laws.specs.way.Tokens.{◌>>=◌, behind, behind_word, is_word, identifier_at}
use Rattle.parse_laws.specs.way.Types.{type_at, final_at, begins_local_at}
use Rattle.parse_laws.specs.way.Below.{Below, BlockTree}
use Rattle.parse_laws.specs.way.Readers.{IsRead, IsBelow, SpellsBlockTree, is_block_tree, block_tree_height, any}
use Rattle.parse_laws.specs.way.Statements.{label_before, is_for_each_at, variables_at, block_statements_at, block_layer, inner_block_at, condition_at, else_at, if_at, while_at, do_at, labelled_at, label_at, break_at, continue_at, return_at, throw_at, expression_statement_at, steps_before_at, start_locals_at, start_at, ended_condition_at, plain_for_at, for_each_at, for_at, groups_at, switch_at, catches_at, finally_at, try_at, statement_by, statement_layer, local_at}
use Rattle.parse_laws.proofs.Rules.{bind, either, choose, weaken}
use Rattle.parse_laws.proofs.Fronts.{is_of, Front, front, behind_front, FrontName, front_name, identifier_front}
use Rattle.type_laws.specs.Laws.{Within}
use Rattle.type_laws.proofs.Heads.{final_sound}
use Rattle.type_laws.proofs.Public.{types_sound_law}
use Rattle.statement_laws.proofs.Lists.{ClosedRead, ReadBefore, GoodExpression, expression_sound, variables_sound, block_statements_sound, StepsBefore, steps_before_sound, groups_sound, CatchItems, catches_sound}

-- a label, and the colon behind it
pub data FrontLabel : List Token → Identifier × List Token → Type 0 where
  front_label : {ts mid rest : List Token} {n : Identifier} → FrontName ts (n, mid) → Front (kind.Symbol symbol.Colon) mid rest → FrontLabel ts (n, rest)

pub label_before_sound : (ts : List Token) → IfSome (label_before ts) (FrontLabel ts)
label_before_sound ts =
    bind (identifier_at ts) _ (FrontName ts) (FrontLabel ts) (identifier_front ts)
    (λ x i. bind (behind symbol.Colon x.1) _ (Front (kind.Symbol symbol.Colon) x.1) (FrontLabel ts) (behind_front (kind.Symbol symbol.Colon) x.1)
    (λ rest k. front_label i k))

module _ (names texts : List (List ℕ)) where
  -- ---- from what stands in front to what is spelled

  block_by : {bs : Statements} {c : Span} {ts inside rest : List Token} → Front (kind.Symbol symbol.OpenBrace) ts inside → SpellsBlock names texts bs c inside rest → SpellsStatement names texts (tree.block (first_span ts) bs c) ts rest
  block_by (front o) d = is_block o d

  block_tree_by : {bs : Statements} {c : Span} {ts inside rest : List Token} → Front (kind.Symbol symbol.OpenBrace) ts inside → SpellsBlock names texts bs c inside rest →
      SpellsBlockTree names texts (record { opening = first_span ts; statements = bs; closing = c }) ts rest
  block_tree_by (front o) d = is_block_tree o d

  condition_by : {e : Expression} {ts inside last rest : List Token} → Front (kind.Symbol symbol.OpenParen) ts inside → Spells names texts e inside last → Front (kind.Symbol symbol.CloseParen) last rest → SpellsCondition names texts e ts rest
  condition_by (front o) d (front c) = condition o d c

  if_else_by : {w : Token} {e : Expression} {x y : Statement} {ts mid next last rest : List Token} → IsWord word.If w → SpellsCondition names texts e ts mid → SpellsStatement names texts x mid next → ends_short x ≡ false →
      Front (kind.Keyword word.Else) next last → SpellsStatement names texts y last rest → SpellsStatement names texts (tree.if_else w.span e x y (join w.span (statement_span y))) (w ∷ ts) rest
  if_else_by i c x s (front l) y = is_if_else s i c x l y

  do_by : {w : Token} {e : Expression} {b : Statement} {ts next mid last rest : List Token} → IsWord word.Do w → SpellsStatement names texts b ts next → Front (kind.Keyword word.While) next mid → SpellsCondition names texts e mid last →
      Front (kind.Symbol symbol.Semicolon) last rest → SpellsStatement names texts (tree.do_while w.span b e (join w.span (first_span last))) (w ∷ ts) rest
  do_by i b (front l) c (front k) = is_do i b l c k

  labelled_by : {n : Identifier} {b : Statement} {ts mid rest : List Token} → FrontLabel ts (n, mid) → SpellsStatement names texts b mid rest → SpellsStatement names texts (tree.labelled n b (join n.span (statement_span b))) ts rest
  labelled_by (front_label (front_name t) (front k)) b = is_labelled t k b

  break_by : {w : Token} {n : Option Identifier} {ts last rest : List Token} → IsWord word.Break w → SpellsMaybeLabel n ts last → Front (kind.Symbol symbol.Semicolon) last rest →
      SpellsStatement names texts (tree.break w.span n (join w.span (first_span last))) (w ∷ ts) rest
  break_by i l (front k) = is_break i l k

  continue_by : {w : Token} {n : Option Identifier} {ts last rest : List Token} → IsWord word.Continue w → SpellsMaybeLabel n ts last → Front (kind.Symbol symbol.Semicolon) last rest →
      SpellsStatement names texts (tree.continue w.span n (join w.span (first_span last))) (w ∷ ts) rest
  continue_by i l (front k) = is_continue i l k

  return_by : {w : Token} {e : MaybeExpression} {ts last rest : List Token} → IsWord word.Return w → SpellsMaybe names texts e ts last → Front (kind.Symbol symbol.Semicolon) last rest →
      SpellsStatement names texts (tree.return w.span e (join w.span (first_span last))) (w ∷ ts) rest
  return_by i e (front k) = is_return i e k

  throw_by : {w : Token} {e : Expression} {ts last rest : List Token} → IsWord word.Throw w → Spells names texts e ts last → Front (kind.Symbol symbol.Semicolon) last rest →
      SpellsStatement names texts (tree.throw w.span e (join w.span (first_span last))) (w ∷ ts) rest
  throw_by i e (front k) = is_throw i e k

  expression_statement_by : {e : Expression} {ts last rest : List Token} → is_step e ≡ true → Spells names texts e ts last → Front (kind.Symbol symbol.Semicolon) last rest →
      SpellsStatement names texts (tree.expression_statement (first_span ts) e (join (first_span ts) (first_span last))) ts rest
  expression_statement_by s e (front k) = is_expression_statement s e k

  for_by : {w : Token} {i : ForInitializer} {e : MaybeExpression} {es : Expressions} {b : Statement} {ts inside a mid d next l last rest : List Token} → IsWord word.For w → Front (kind.Symbol symbol.OpenParen) ts inside →
      SpellsForInitializer names texts i inside a → Front (kind.Symbol symbol.Semicolon) a mid → SpellsMaybe names texts e mid d → Front (kind.Symbol symbol.Semicolon) d next → SpellsMaybeSteps names texts es next l →
      Front (kind.Symbol symbol.CloseParen) l last → SpellsStatement names texts b last rest → SpellsStatement names texts (tree.for w.span i e es b (join w.span (statement_span b))) (w ∷ ts) rest
  for_by w (front o) i (front c) e (front d) s (front p) b = is_for w o i c e d s p b

  for_each_by : {w : Token} {m : Bool} {t : TypeName} {n : Identifier} {e : Expression} {b : Statement} {ts inside mid a next l last rest : List Token} → IsWord word.For w → Front (kind.Symbol symbol.OpenParen) ts inside →
      SpellsFinal m inside mid → SpellsTypeName t mid a → FrontLabel a (n, next) → Spells names texts e next l → Front (kind.Symbol symbol.CloseParen) l last → SpellsStatement names texts b last rest →
      SpellsStatement names texts (tree.for_each w.span m t n e b (join w.span (statement_span b))) (w ∷ ts) rest
  for_each_by w (front o) f t (front_label (front_name n) (front k)) e (front p) b = is_for_each w o f t n k e p b

  switch_by : {w : Token} {e : Expression} {gs : Groups} {c : Span} {ts a inside rest : List Token} → IsWord word.Switch w → SpellsCondition names texts e ts a → Front (kind.Symbol symbol.OpenBrace) a inside →
      SpellsGroups names texts gs c inside rest → SpellsStatement names texts (tree.switch w.span e gs (join w.span c)) (w ∷ ts) rest
  switch_by w e (front o) g = is_switch w e o g

  try_by : {w : Token} {b : BlockTree} {cs : Catches} {e : Span} {ts mid rest : List Token} → IsWord word.Try w → has_catch cs ≡ true → SpellsBlockTree names texts b ts mid → SpellsCatches names texts cs b.closing e mid rest →
      SpellsStatement names texts (tree.try w.span b.opening b.statements b.closing cs (join w.span e)) (w ∷ ts) rest
  try_by w h (is_block_tree o b) cs = is_try h w o b cs

  try_finally_by : {w : Token} {b l : BlockTree} {cs : Catches} {e : Span} {ts mid a last rest : List Token} → IsWord word.Try w → SpellsBlockTree names texts b ts mid → SpellsCatches names texts cs b.closing e mid a →
      Front (kind.Keyword word.Finally) a last → SpellsBlockTree names texts l last rest →
      SpellsStatement names texts (tree.try_finally w.span b.opening b.statements b.closing cs (first_span a) l.opening l.statements l.closing (join w.span l.closing)) (w ∷ ts) rest
  try_finally_by w (is_block_tree o b) cs (front f) (is_block_tree p l) = is_try_finally w o b cs f p l

  local_by : {m : Bool} {t : TypeName} {vs : Variables} {ts mid last a rest : List Token} → SpellsFinal m ts mid → SpellsTypeName t mid last → SpellsVariables names texts vs last a → Front (kind.Symbol symbol.Semicolon) a rest →
      SpellsBlockStatement names texts (tree.local (first_span ts) m t vs (join (first_span ts) (first_span a))) ts rest
  local_by f t v (front c) = is_local f t v c

  label_by : {ts : List Token} {x : Identifier × List Token} → FrontName ts x → SpellsMaybeLabel (Some x.0) ts x.1
  label_by (front_name t) = a_label t

  module _ (h : ℕ) (p : Below) (below : IsBelow names texts h p) where
    -- a statement of the height below, and one of this height
    abbrev GoodBelow : List Token → Statement × List Token → Type 0
    GoodBelow = IsRead (SpellsStatement names texts) statement_height any h

    abbrev Good : List Token → Statement × List Token → Type 0
    Good = IsRead (SpellsStatement names texts) statement_height any (suc h)

    abbrev pub GoodBlock : List Token → BlockTree × List Token → Type 0
    GoodBlock = IsRead (SpellsBlockTree names texts) block_tree_height any h

    abbrev GoodType : List Token → TypeName × List Token → Type 0
    GoodType ts x = Within SpellsTypeName type_height h x.0 ts x.1

    -- an expression behind this token
    abbrev After : TokenKind → List Token → Expression × List Token → Type 0
    After k ts x = (mid : List Token) × Front k ts mid × GoodExpression names texts h p below mid x

    expression_after : (y : Symbol) (ts : List Token) → IfSome (behind y ts >>= p.expression 1) (After (kind.Symbol y) ts)
    expression_after y ts = bind (behind y ts) (p.expression 1) (Front (kind.Symbol y) ts) (After (kind.Symbol y) ts) (behind_front (kind.Symbol y) ts)
        (λ mid w. weaken (p.expression 1 mid) (GoodExpression names texts h p below mid) _ (expression_sound names texts h p below mid) (λ x g. (mid, w, g)))

    abbrev StatementAfter : TokenKind → List Token → Statement × List Token → Type 0
    StatementAfter k ts x = (mid : List Token) × Front k ts mid × GoodBelow mid x

    statement_after : (k : TokenKind) (o : Option (List Token)) (ts : List Token) → IfSome o (Front k ts) → IfSome (o >>= p.statement) (StatementAfter k ts)
    statement_after k o ts f = bind o p.statement (Front k ts) (StatementAfter k ts) f
        (λ mid w. weaken (p.statement mid) (GoodBelow mid) _ (below.statement.sound mid) (λ x g. (mid, w, g)))

    -- ---- blocks

    abbrev Inside : List Token → Statements × Span × List Token → Type 0
    Inside ts x = (mid : List Token) × Front (kind.Symbol symbol.OpenBrace) ts mid × ClosedRead (SpellsBlock names texts) statements_height h mid x

    inside_sound : (ts : List Token) → IfSome (behind symbol.OpenBrace ts >>= block_statements_at h p) (Inside ts)
    inside_sound ts = bind (behind symbol.OpenBrace ts) (block_statements_at h p) (Front (kind.Symbol symbol.OpenBrace) ts) (Inside ts) (behind_front (kind.Symbol symbol.OpenBrace) ts)
        (λ mid w. weaken (block_statements_at h p mid) (ClosedRead (SpellsBlock names texts) statements_height h mid) _ (block_statements_sound names texts h p below mid) (λ x g. (mid, w, g)))

    pub block_sound : (ts : List Token) → IfSome (block_layer h p ts) (IsRead (SpellsBlockTree names texts) block_tree_height any (suc h) ts)
    unfolding block_layer
    block_sound ts = bind (behind symbol.OpenBrace ts >>= block_statements_at h p) _ (Inside ts) _ (inside_sound ts)
        (λ x g. record { spelled = block_tree_by g.1 g.2.spelled; fits = tt; within = let a = g.2.within in omega arith })

    inner_block_sound : (ts : List Token) → IfSome (inner_block_at h p ts) (Good ts)
    unfolding inner_block_at
    inner_block_sound ts = bind (behind symbol.OpenBrace ts >>= block_statements_at h p) _ (Inside ts) (Good ts) (inside_sound ts)
        (λ x g. record { spelled = block_by g.1 g.2.spelled; fits = tt; within = let a = g.2.within in omega arith })

    -- ---- statements with a condition

    abbrev GoodCondition : List Token → Expression × List Token → Type 0
    GoodCondition = IsRead (SpellsCondition names texts) height any h

    condition_sound : (ts : List Token) → IfSome (condition_at h p ts) (GoodCondition ts)
    unfolding condition_at
    condition_sound ts = bind (behind symbol.OpenParen ts >>= p.expression 1) _ (After (kind.Symbol symbol.OpenParen) ts) (GoodCondition ts) (expression_after symbol.OpenParen ts)
        (λ x g. bind (behind symbol.CloseParen x.1) _ (Front (kind.Symbol symbol.CloseParen) x.1) (GoodCondition ts) (behind_front (kind.Symbol symbol.CloseParen) x.1)
        (λ rest c. record { spelled = condition_by g.1 g.2.spelled c; fits = tt; within = g.2.within }))

    pub record IsElse (x : Statement) (ts : List Token) (y : Statement × List Token) : Type 0 where
      pub nearest : ends_short x ≡ false
      pub mid : List Token
      pub stands : Front (kind.Keyword word.Else) ts mid
      pub read : GoodBelow mid y

    pub else_sound : (x : Statement) (ts : List Token) → IfSome (else_at h p x ts) (IsElse x ts)
    unfolding else_at
    else_sound x ts = choose (ends_short x) _ _ (λ o. IfSome o (IsElse x ts)) (λ _. tt)
        (λ f. weaken (behind_word word.Else ts >>= p.statement) (StatementAfter (kind.Keyword word.Else) ts) (IsElse x ts) (statement_after (kind.Keyword word.Else) (behind_word word.Else ts) ts (behind_front (kind.Keyword word.Else) ts))
        (λ y g. record { nearest = f; mid = g.0; stands = g.1; read = g.2 }))

    if_sound : {w : Token} → IsWord word.If w → (ts : List Token) → IfSome (if_at h p w.span ts) (Good (w ∷ ts))
    unfolding if_at
    if_sound {w} i ts = bind (condition_at h p ts) _ (GoodCondition ts) (Good (w ∷ ts)) (condition_sound ts)
        (λ c g. bind (p.statement c.1) _ (GoodBelow c.1) (Good (w ∷ ts)) (below.statement.sound c.1)
        (λ x b. either (else_at h p x.0 x.1) _ _ (IsElse x.0 x.1) (λ o. IfSome o (Good (w ∷ ts))) (else_sound x.0 x.1)
        (λ y e. record { spelled = if_else_by i g.spelled b.spelled e.nearest e.stands e.read.spelled; fits = tt; within = let k = g.within in let l = b.within in let m = e.read.within in omega arith })
        (record { spelled = is_if_only i g.spelled b.spelled; fits = tt; within = let k = g.within in let l = b.within in omega arith })))

    while_sound : {w : Token} → IsWord word.While w → (ts : List Token) → IfSome (while_at h p w.span ts) (Good (w ∷ ts))
    unfolding while_at
    while_sound {w} i ts = bind (condition_at h p ts) _ (GoodCondition ts) (Good (w ∷ ts)) (condition_sound ts)
        (λ c g. bind (p.statement c.1) _ (GoodBelow c.1) (Good (w ∷ ts)) (below.statement.sound c.1)
        (λ x b. record { spelled = is_while i g.spelled b.spelled; fits = tt; within = let k = g.within in let l = b.within in omega arith }))

    abbrev ConditionAfterWhile : List Token → Expression × List Token → Type 0
    ConditionAfterWhile ts x = (mid : List Token) × Front (kind.Keyword word.While) ts mid × GoodCondition mid x

    do_sound : {w : Token} → IsWord word.Do w → (ts : List Token) → IfSome (do_at h p w.span ts) (Good (w ∷ ts))
    unfolding do_at
    do_sound {w} i ts = bind (p.statement ts) _ (GoodBelow ts) (Good (w ∷ ts)) (below.statement.sound ts)
        (λ b g. bind (behind_word word.While b.1 >>= condition_at h p) _ (ConditionAfterWhile b.1) (Good (w ∷ ts))
        (bind (behind_word word.While b.1) (condition_at h p) (Front (kind.Keyword word.While) b.1) (ConditionAfterWhile b.1) (behind_front (kind.Keyword word.While) b.1)
        (λ mid l. weaken (condition_at h p mid) (GoodCondition mid) _ (condition_sound mid) (λ x c. (mid, l, c))))
        (λ x c. bind (behind symbol.Semicolon x.1) _ (Front (kind.Symbol symbol.Semicolon) x.1) (Good (w ∷ ts)) (behind_front (kind.Symbol symbol.Semicolon) x.1)
        (λ rest k. record { spelled = do_by i g.spelled c.1 c.2.spelled k; fits = tt; within = let d = g.within in let e = c.2.within in omega arith })))

    labelled_sound : (ts : List Token) (x : Identifier × List Token) → FrontLabel ts x → IfSome (labelled_at h p x.0 x.1) (Good ts)
    unfolding labelled_at
    labelled_sound ts x f = bind (p.statement x.1) _ (GoodBelow x.1) (Good ts) (below.statement.sound x.1)
        (λ b g. record { spelled = labelled_by f g.spelled; fits = tt; within = let a = g.within in omega arith })

    -- ---- jumps

    maybe_label_sound : (ts : List Token) → SpellsMaybeLabel (label_at h p ts).0 ts (label_at h p ts).1
    maybe_label_sound ts = either (identifier_at ts) (λ x. (Some x.0, x.1)) (None, ts) (FrontName ts) (λ (l : Option Identifier × List Token). SpellsMaybeLabel l.0 ts l.1) (identifier_front ts) (λ x f. label_by f) no_label

    break_sound : {w : Token} → IsWord word.Break w → (ts : List Token) → IfSome (break_at h p w.span ts) (Good (w ∷ ts))
    unfolding break_at
    break_sound {w} i ts = bind (behind symbol.Semicolon (label_at h p ts).1) _ (Front (kind.Symbol symbol.Semicolon) (label_at h p ts).1) (Good (w ∷ ts)) (behind_front (kind.Symbol symbol.Semicolon) (label_at h p ts).1)
        (λ rest k. record { spelled = break_by i (maybe_label_sound ts) k; fits = tt; within = omega arith })

    continue_sound : {w : Token} → IsWord word.Continue w → (ts : List Token) → IfSome (continue_at h p w.span ts) (Good (w ∷ ts))
    unfolding continue_at
    continue_sound {w} i ts = bind (behind symbol.Semicolon (label_at h p ts).1) _ (Front (kind.Symbol symbol.Semicolon) (label_at h p ts).1) (Good (w ∷ ts)) (behind_front (kind.Symbol symbol.Semicolon) (label_at h p ts).1)
        (λ rest k. record { spelled = continue_by i (maybe_label_sound ts) k; fits = tt; within = omega arith })

    return_sound : {w : Token} → IsWord word.Return w → (ts : List Token) → IfSome (return_at h p w.span ts) (Good (w ∷ ts))
    unfolding return_at
    return_sound {w} i ts = either (behind symbol.Semicolon ts) _ _ (Front (kind.Symbol symbol.Semicolon) ts) (λ o. IfSome o (Good (w ∷ ts))) (behind_front (kind.Symbol symbol.Semicolon) ts)
        (λ rest k. record { spelled = return_by i nothing k; fits = tt; within = omega arith })
        (bind (p.expression 1 ts) _ (GoodExpression names texts h p below ts) (Good (w ∷ ts)) (expression_sound names texts h p below ts)
        (λ e g. bind (behind symbol.Semicolon e.1) _ (Front (kind.Symbol symbol.Semicolon) e.1) (Good (w ∷ ts)) (behind_front (kind.Symbol symbol.Semicolon) e.1)
        (λ rest k. record { spelled = return_by i (something g.spelled) k; fits = tt; within = let a = g.within in omega arith })))

    throw_sound : {w : Token} → IsWord word.Throw w → (ts : List Token) → IfSome (throw_at h p w.span ts) (Good (w ∷ ts))
    unfolding throw_at
    throw_sound {w} i ts = bind (p.expression 1 ts) _ (GoodExpression names texts h p below ts) (Good (w ∷ ts)) (expression_sound names texts h p below ts)
        (λ e g. bind (behind symbol.Semicolon e.1) _ (Front (kind.Symbol symbol.Semicolon) e.1) (Good (w ∷ ts)) (behind_front (kind.Symbol symbol.Semicolon) e.1)
        (λ rest k. record { spelled = throw_by i g.spelled k; fits = tt; within = let a = g.within in omega arith }))

    expression_statement_sound : (ts : List Token) → IfSome (expression_statement_at h p ts) (Good ts)
    unfolding expression_statement_at
    expression_statement_sound ts = bind (p.expression 1 ts) _ (GoodExpression names texts h p below ts) (Good ts) (expression_sound names texts h p below ts)
        (λ e g. bind (behind symbol.Semicolon e.1) _ (Front (kind.Symbol symbol.Semicolon) e.1) (Good ts) (behind_front (kind.Symbol symbol.Semicolon) e.1)
        (λ rest k. choose (is_step e.0) _ _ (λ o. IfSome o (Good ts))
        (λ s. record { spelled = expression_statement_by s g.spelled k; fits = tt; within = let a = g.within in omega arith })
        (λ _. tt)))

    -- ---- loops with `for`

    abbrev StartBefore : List Token → ForInitializer × List Token → Type 0
    StartBefore = ReadBefore (SpellsForInitializer names texts) for_initializer_height symbol.Semicolon h

    start_locals_sound : (ts : List Token) → IfSome (start_locals_at h p ts) (StartBefore ts)
    unfolding start_locals_at
    start_locals_sound ts = bind (type_at h (final_at ts).1) _ (GoodType (final_at ts).1) (StartBefore ts) (types_sound_law h (final_at ts).1)
        (λ t g. bind (variables_at h p t.1) _ (IsRead (SpellsVariables names texts) variables_height any h t.1) (StartBefore ts) (variables_sound names texts h p below t.1)
        (λ vs v. bind (behind symbol.Semicolon vs.1) _ (Front (kind.Symbol symbol.Semicolon) vs.1) (StartBefore ts) (behind_front (kind.Symbol symbol.Semicolon) vs.1)
        (λ rest k. record { last = vs.1; spelled = for_locals (final_sound ts) g.0 v.spelled; ends = k; within = let a = g.1 in let b = v.within in omega arith })))

    start_sound : (ts : List Token) → IfSome (start_at h p ts) (StartBefore ts)
    unfolding start_at
    start_sound ts = choose (is_word word.Final ts || begins_local_at h ts) _ _ (λ o. IfSome o (StartBefore ts)) (λ _. start_locals_sound ts)
        (λ _. bind (steps_before_at h p symbol.Semicolon ts) _ (StepsBefore names texts h p below symbol.Semicolon ts) (StartBefore ts) (steps_before_sound names texts h p below symbol.Semicolon ts)
        (λ x g. record { last = g.last; spelled = for_steps g.spelled; ends = g.ends; within = g.within }))

    abbrev ConditionBefore : List Token → MaybeExpression × List Token → Type 0
    ConditionBefore = ReadBefore (SpellsMaybe names texts) height_if symbol.Semicolon h

    ended_condition_sound : (ts : List Token) → IfSome (ended_condition_at h p ts) (ConditionBefore ts)
    unfolding ended_condition_at
    ended_condition_sound ts = either (behind symbol.Semicolon ts) _ _ (Front (kind.Symbol symbol.Semicolon) ts) (λ o. IfSome o (ConditionBefore ts)) (behind_front (kind.Symbol symbol.Semicolon) ts)
        (λ rest k. record { last = ts; spelled = nothing; ends = k; within = omega arith })
        (bind (p.expression 1 ts) _ (GoodExpression names texts h p below ts) (ConditionBefore ts) (expression_sound names texts h p below ts)
        (λ e g. bind (behind symbol.Semicolon e.1) _ (Front (kind.Symbol symbol.Semicolon) e.1) (ConditionBefore ts) (behind_front (kind.Symbol symbol.Semicolon) e.1)
        (λ rest k. record { last = e.1; spelled = something g.spelled; ends = k; within = g.within })))

    plain_for_sound : {w : Token} {ts inside : List Token} → IsWord word.For w → Front (kind.Symbol symbol.OpenParen) ts inside → IfSome (plain_for_at h p w.span inside) (Good (w ∷ ts))
    unfolding plain_for_at
    plain_for_sound {w} {ts} {inside} f o = bind (start_at h p inside) _ (StartBefore inside) (Good (w ∷ ts)) (start_sound inside)
        (λ i gi. bind (ended_condition_at h p i.1) _ (ConditionBefore i.1) (Good (w ∷ ts)) (ended_condition_sound i.1)
        (λ c gc. bind (steps_before_at h p symbol.CloseParen c.1) _ (StepsBefore names texts h p below symbol.CloseParen c.1) (Good (w ∷ ts)) (steps_before_sound names texts h p below symbol.CloseParen c.1)
        (λ s gs. bind (p.statement s.1) _ (GoodBelow s.1) (Good (w ∷ ts)) (below.statement.sound s.1)
        (λ b gb. record {
          spelled = for_by f o gi.spelled gi.ends gc.spelled gc.ends gs.spelled gs.ends gb.spelled;
          fits = tt;
          within = let j = gi.within in let k = gc.within in let l = gs.within in let m = gb.within in omega arith;
        }))))

    for_each_sound : {w : Token} {ts inside : List Token} → IsWord word.For w → Front (kind.Symbol symbol.OpenParen) ts inside → IfSome (for_each_at h p w.span inside) (Good (w ∷ ts))
    unfolding for_each_at
    for_each_sound {w} {ts} {inside} f o = bind (type_at h (final_at inside).1) _ (GoodType (final_at inside).1) (Good (w ∷ ts)) (types_sound_law h (final_at inside).1)
        (λ t gt. bind (label_before t.1) _ (FrontLabel t.1) (Good (w ∷ ts)) (label_before_sound t.1)
        (λ x n. bind (p.expression 1 x.1) _ (GoodExpression names texts h p below x.1) (Good (w ∷ ts)) (expression_sound names texts h p below x.1)
        (λ e ge. bind (behind symbol.CloseParen e.1 >>= p.statement) _ (StatementAfter (kind.Symbol symbol.CloseParen) e.1) (Good (w ∷ ts)) (statement_after (kind.Symbol symbol.CloseParen) (behind symbol.CloseParen e.1) e.1 (behind_front (kind.Symbol symbol.CloseParen) e.1))
        (λ b gb. record {
          spelled = for_each_by f o (final_sound inside) gt.0 n ge.spelled gb.1 gb.2.spelled;
          fits = tt;
          within = let j = gt.1 in let k = ge.within in let l = gb.2.within in omega arith;
        }))))

    for_sound : {w : Token} → IsWord word.For w → (ts : List Token) → IfSome (for_at h p w.span ts) (Good (w ∷ ts))
    unfolding for_at
    for_sound {w} f ts = bind (behind symbol.OpenParen ts) _ (Front (kind.Symbol symbol.OpenParen) ts) (Good (w ∷ ts)) (behind_front (kind.Symbol symbol.OpenParen) ts)
        (λ inside o. choose (is_for_each_at h inside) _ _ (λ r. IfSome r (Good (w ∷ ts))) (λ _. for_each_sound f o) (λ _. plain_for_sound f o))

    -- ---- `switch` and `try`

    switch_sound : {w : Token} → IsWord word.Switch w → (ts : List Token) → IfSome (switch_at h p w.span ts) (Good (w ∷ ts))
    unfolding switch_at
    switch_sound {w} i ts = bind (condition_at h p ts) _ (GoodCondition ts) (Good (w ∷ ts)) (condition_sound ts)
        (λ e c. bind (behind symbol.OpenBrace e.1) _ (Front (kind.Symbol symbol.OpenBrace) e.1) (Good (w ∷ ts)) (behind_front (kind.Symbol symbol.OpenBrace) e.1)
        (λ inside o. bind (groups_at h p (length inside) [] inside) _ _ (Good (w ∷ ts)) (groups_sound names texts h p below (length inside) [] inside)
        (λ gs g. record { spelled = rw g.whole (switch_by i c.spelled o g.spelled); fits = tt; within = rw g.whole (let a = c.within in let b = g.within in omega arith) })))

    abbrev pub FinallyRead : List Token → BlockTree × List Token → Type 0
    FinallyRead ts x = (mid : List Token) × Front (kind.Keyword word.Finally) ts mid × GoodBlock mid x

    pub finally_sound : (ts : List Token) → IfSome (finally_at h p ts) (FinallyRead ts)
    unfolding finally_at
    finally_sound ts = bind (behind_word word.Finally ts) p.block (Front (kind.Keyword word.Finally) ts) (FinallyRead ts) (behind_front (kind.Keyword word.Finally) ts)
        (λ mid f. weaken (p.block mid) (GoodBlock mid) _ (below.block.sound mid) (λ x g. (mid, f, g)))

    try_with : {w : Token} → IsWord word.Try w → (ts : List Token) (b : BlockTree × List Token) → GoodBlock ts b → (cs : Catches × Span × List Token) → CatchItems names texts h p below [] b.0.closing b.1 cs →
        IfSome (cond (has_catch cs.0) (Some (tree.try w.span b.0.opening b.0.statements b.0.closing cs.0 (join w.span cs.1), cs.2)) None) (Good (w ∷ ts))
    try_with {w} i ts b g cs v = choose (has_catch cs.0) _ _ (λ o. IfSome o (Good (w ∷ ts)))
        (λ e. record { spelled = let d : SpellsCatches names texts cs.0 b.0.closing cs.1 b.1 cs.2 = rw v.whole v.spelled in try_by i e g.spelled d; fits = tt; within = rw v.whole (let a = g.within in let c = v.within in omega arith) })
        (λ _. tt)

    try_sound : {w : Token} → IsWord word.Try w → (ts : List Token) → IfSome (try_at h p w.span ts) (Good (w ∷ ts))
    unfolding try_at
    try_sound {w} i ts = bind (p.block ts) _ (GoodBlock ts) (Good (w ∷ ts)) (below.block.sound ts)
        (λ b g. let cs = catches_at h p (length b.1) [] b.0.closing b.1 in
        let v = catches_sound names texts h p below (length b.1) [] b.0.closing b.1 in
        either (finally_at h p cs.2) _ _ (FinallyRead cs.2) (λ o. IfSome o (Good (w ∷ ts))) (finally_sound cs.2)
        (λ l f. record {
          spelled = let d : SpellsCatches names texts cs.0 b.0.closing cs.1 b.1 cs.2 = rw v.whole v.spelled in try_finally_by i g.spelled d f.1 f.2.spelled;
          fits = tt;
          within = rw v.whole (let a = g.within in let c = v.within in let d = f.2.within in omega arith);
        })
        (try_with i ts b g cs v))

    -- ---- all

    statement_by_sound : (k : TokenKind) (t : Token) (rest : List Token) → t.kind ≡ k → IfSome (statement_by h p k t.span (t ∷ rest) rest) (Good (t ∷ rest))
    statement_by_sound (kind.Symbol symbol.OpenBrace) t rest e = inner_block_sound (t ∷ rest)
    statement_by_sound (kind.Symbol symbol.Semicolon) t rest e = record { spelled = is_empty (is_of (kind.Symbol symbol.Semicolon) t e); fits = tt; within = omega arith }
    statement_by_sound (kind.Keyword word.If) t rest e = if_sound (is_of (kind.Keyword word.If) t e) rest
    statement_by_sound (kind.Keyword word.While) t rest e = while_sound (is_of (kind.Keyword word.While) t e) rest
    statement_by_sound (kind.Keyword word.Do) t rest e = do_sound (is_of (kind.Keyword word.Do) t e) rest
    statement_by_sound (kind.Keyword word.For) t rest e = for_sound (is_of (kind.Keyword word.For) t e) rest
    statement_by_sound (kind.Keyword word.Switch) t rest e = switch_sound (is_of (kind.Keyword word.Switch) t e) rest
    statement_by_sound (kind.Keyword word.Break) t rest e = break_sound (is_of (kind.Keyword word.Break) t e) rest
    statement_by_sound (kind.Keyword word.Continue) t rest e = continue_sound (is_of (kind.Keyword word.Continue) t e) rest
    statement_by_sound (kind.Keyword word.Return) t rest e = return_sound (is_of (kind.Keyword word.Return) t e) rest
    statement_by_sound (kind.Keyword word.Throw) t rest e = throw_sound (is_of (kind.Keyword word.Throw) t e) rest
    statement_by_sound (kind.Keyword word.Try) t rest e = try_sound (is_of (kind.Keyword word.Try) t e) rest
    statement_by_sound _ t rest e = either (label_before (t ∷ rest)) _ _ (FrontLabel (t ∷ rest)) (λ o. IfSome o (Good (t ∷ rest))) (label_before_sound (t ∷ rest))
        (λ x f. labelled_sound (t ∷ rest) x f) (expression_statement_sound (t ∷ rest))

    pub statement_sound : (ts : List Token) → IfSome (statement_layer h p ts) (IsRead (SpellsStatement names texts) statement_height any (suc h) ts)
    unfolding statement_layer
    statement_sound [] = tt
    statement_sound (t ∷ rest) = statement_by_sound t.kind t rest refl

    pub local_sound : (ts : List Token) → IfSome (local_at h p ts) (IsRead (SpellsBlockStatement names texts) statement_height any (suc h) ts)
    unfolding local_at
    local_sound ts = bind (type_at h (final_at ts).1) _ (GoodType (final_at ts).1) _ (types_sound_law h (final_at ts).1)
        (λ t g. bind (variables_at h p t.1) _ (IsRead (SpellsVariables names texts) variables_height any h t.1) _ (variables_sound names texts h p below t.1)
        (λ vs v. bind (behind symbol.Semicolon vs.1) _ (Front (kind.Symbol symbol.Semicolon) vs.1) _ (behind_front (kind.Symbol symbol.Semicolon) vs.1)
        (λ rest k. record { spelled = local_by (final_sound ts) g.0 v.spelled k; fits = tt; within = let a = g.1 in let b = v.within in omega arith })))
