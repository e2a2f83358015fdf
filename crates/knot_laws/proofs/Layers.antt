-- One layer over what reads the height below right reads the next height right.
use Rattle.std.proofs.Common.{◌≡◌, ℕ, suc, ◌<◌, ◌≤◌, true, false, List, length, Some, IfSome, refl, subst, ◌||◌}
use Rattle.je_token.specs.declared.keyword.Keyword.TheVariants as word
use Rattle.je_token.specs.declared.token.Token.{Token}
use Rattle.je_ast.specs.Trees.{Expression, Statement, Declaration, Members}
use Rattle.je_ast.specs.Trees as tree
use Rattle.je_ast.specs.Height.{height, statement_height, member_height, declaration_height, variables_height, statements_height}
use Rattle.je_grammar.specs.Operators.{level}
use Rattle.je_grammar.specs.Grammar.{Spells, SpellsInit, SpellsVariables, SpellsStatement, SpellsBlock, SpellsBlockStatement, is_local, is_local_class, is_statement, SpellsMember, SpellsDeclaration}
use Rattle.parse_laws.specs.way.Tokens.{is_word}
use Rattle.parse_laws.specs.way.Types.{begins_local_at}
use Rattle.parse_laws.specs.way.Below.{Below}
use Rattle.parse_laws.specs.way.Readers.{IsRead, IsReader, IsBelow, Reads, itself, reach, GoesOn, SpellsBlockTree, block_tree_height, any, never}
use Rattle.parse_laws.specs.way.Statements.{variables_at, block_statements_at, block_layer, statement_layer, local_at}
use Rattle.parse_laws.specs.way.Members.{class_body_at, member_layer, declaration_layer, local_class_at, begins_local_class_at}
use Rattle.parse_laws.specs.way.Knot.{expression_over, initializer_over, block_statement_over, layer}
use Rattle.parse_laws.proofs.Rules.{bind, choose, weaken, unless}
use Rattle.expression_laws.specs.way.Parts.{ReadBodies}
use Rattle.expression_laws.proofs.Sound.{layer_sound}
use Rattle.expression_laws.proofs.Exact.{layer_exact}
use Rattle.expression_laws.proofs.Initializers.{initializer_sound, initializer_exact}
use Rattle.statement_laws.proofs.Lists.{ClosedRead, variables_sound, block_statements_sound}
use Rattle.statement_laws.proofs.Blocks.{variables_exact, block_statements_exact, block_exact, local_read}
use Rattle.statement_laws.proofs.Sound.{block_sound, statement_sound, local_sound}
use Rattle.statement_laws.proofs.Whole.{statement_exact, statement_no_local, local_begins}
use Rattle.member_laws.specs.Laws.{SpellsLocalClass}
use Rattle.member_laws.specs.way.Parts.{AreVariables, AreStatements, ReadStatements}
use Rattle.member_laws.proofs.TypesRead.{types_are_read}
use Rattle.member_laws.proofs.Bodies.{body_sound, body_exact}
use Rattle.member_laws.proofs.Members.{member_sound}
use Rattle.member_laws.proofs.MembersExact.{member_exact}
use Rattle.member_laws.proofs.Declarations.{declaration_sound, declaration_exact}
use Rattle.member_laws.proofs.LocalClasses.{local_class_seen, local_class_sound, local_class_exact}
use Rattle.member_laws.proofs.LocalOnly.{only_local_class}

module _ (names texts : List (List ℕ)) (h : ℕ) (p : Below) (below : IsBelow names texts h p) where
  bodies : ReadBodies names texts h (class_body_at texts names h p)
  bodies = record { sound = λ ts. body_sound names texts h p below ts; exact = λ ms k ts rest d low. body_exact names texts h p below d low }

  statements : ReadStatements names texts h p
  statements = record {
    variables_sound = λ ts. weaken (variables_at h p ts) (IsRead (SpellsVariables names texts) variables_height any h ts) (AreVariables names texts h ts) (variables_sound names texts h p below ts)
        (λ x g. record { spelled = g.spelled; within = g.within });
    variables_exact = λ vs c ts rest d k low. variables_exact names texts h p below d k low;
    block_sound = λ ts. weaken (block_statements_at h p ts) (ClosedRead (SpellsBlock names texts) statements_height h ts) (AreStatements names texts h ts) (block_statements_sound names texts h p below ts)
        (λ x g. record { spelled = g.spelled; within = g.within });
    block_exact = λ bs c ts rest d low. block_statements_exact names texts h p below d low;
  }

  expressions_read : (least : ℕ) → 0 < least → least ≤ 13 → IsReader (Spells names texts) height (λ e. least ≤ level e) (λ e rest. least ≤ reach rest) (suc h) (expression_over names texts h p least)
  unfolding expression_over
  expressions_read least above small = record {
    sound = λ ts. layer_sound names texts h p (class_body_at texts names h p) below bodies (types_are_read h) least ts above small;
    exact = λ e ts rest d le low. layer_exact names texts h p (class_body_at texts names h p) below bodies (types_are_read h) least d above small le low;
  }

  initializers_read : IsReader (SpellsInit names texts) height any (λ e rest. (1 ≤ level e) × (1 ≤ reach rest)) (suc h) (initializer_over names texts h p)
  unfolding initializer_over expression_over
  initializers_read = record {
    sound = λ ts. initializer_sound names texts h p (class_body_at texts names h p) below bodies (types_are_read h) ts;
    exact = λ e ts rest d fits low. initializer_exact names texts h p (class_body_at texts names h p) below bodies (types_are_read h) d low;
  }

  statements_read : IsReader (SpellsStatement names texts) statement_height any GoesOn (suc h) (statement_layer h p)
  statements_read = record { sound = statement_sound names texts h p below; exact = λ b ts rest d fits low. statement_exact names texts h p below d low }

  blocks_read : IsReader (SpellsBlockTree names texts) block_tree_height any never (suc h) (block_layer h p)
  blocks_read = record { sound = block_sound names texts h p below; exact = λ b ts rest d fits low. itself (block_exact names texts h p below d low) }

  members_read : IsReader (SpellsMember names texts) member_height any never (suc h) (member_layer texts names h p)
  members_read = record {
    sound = λ ts. member_sound names texts h p below statements ts;
    exact = λ m ts rest d fits low. itself (member_exact names texts h p below statements d low);
  }

  pub declarations_read : IsReader (SpellsDeclaration names texts) declaration_height any never (suc h) (declaration_layer texts names h p)
  declarations_read = record {
    sound = λ ts. declaration_sound names texts h p below ts;
    exact = λ d ts rest s fits low. itself (declaration_exact names texts h p below s low);
  }

  -- ---- statements of a block

  abbrev Good : List Token → Statement × List Token → Type 0
  Good = IsRead (SpellsBlockStatement names texts) statement_height any (suc h)

  local_class_there : (ts : List Token) → begins_local_class_at (length ts) ts ≡ true → IfSome (local_class_at texts names h p ts) (IsRead (SpellsLocalClass names texts) declaration_height any (suc h) ts)
  local_class_there ts e = let g = local_class_sound names texts h p below ts in rw e at g

  block_statement_sound : (ts : List Token) → IfSome (block_statement_over names texts h p ts) (Good ts)
  unfolding block_statement_over
  block_statement_sound ts = choose (begins_local_class_at (length ts) ts) _ _ (λ o. IfSome o (Good ts))
      (λ e. bind (local_class_at texts names h p ts) _ (IsRead (SpellsLocalClass names texts) declaration_height any (suc h) ts) (Good ts) (local_class_there ts e)
      (λ d g. record { spelled = g.spelled; fits = tt; within = g.within }))
      (λ _. choose (is_word word.Final ts || begins_local_at h ts) _ _ (λ o. IfSome o (Good ts)) (λ _. local_sound names texts h p below ts)
      (λ _. weaken (statement_layer h p ts) (IsRead (SpellsStatement names texts) statement_height any (suc h) ts) (Good ts) (statement_sound names texts h p below ts)
      (λ x g. record { spelled = is_statement g.spelled; fits = tt; within = g.within })))

  local_class_by : {d : Declaration} (ts : List Token) {rest : List Token} → begins_local_class_at (length ts) ts ≡ true → local_class_at texts names h p ts ≡ Some (d, rest) → block_statement_over names texts h p ts ≡ Some (tree.local_class d, rest)
  unfolding block_statement_over
  local_class_by ts e f = rw (e, f) refl

  local_by : (ts : List Token) → begins_local_class_at (length ts) ts ≡ false → (is_word word.Final ts || begins_local_at h ts) ≡ true → block_statement_over names texts h p ts ≡ local_at h p ts
  unfolding block_statement_over
  local_by ts e f = rw (e, f) refl

  pub statement_by : (ts : List Token) → begins_local_class_at (length ts) ts ≡ false → (is_word word.Final ts || begins_local_at h ts) ≡ false → block_statement_over names texts h p ts ≡ statement_layer h p ts
  unfolding block_statement_over
  statement_by ts e f = rw (e, f) refl

  no_local_class : {b : Statement} (ts : List Token) {rest : List Token} → SpellsBlockStatement names texts b ts rest → ((d : Declaration) → ¬ (b ≡ tree.local_class d)) → begins_local_class_at (length ts) ts ≡ false
  no_local_class ts d other = unless (begins_local_class_at (length ts) ts) (λ e. let a = only_local_class names texts ts d e in other a.0 a.1)

  statement_no_class : {b : Statement} {ts rest : List Token} → SpellsStatement names texts b ts rest → (d : Declaration) → ¬ (b ≡ tree.local_class d)
  statement_no_class {b} {ts} {rest} s d e = elim (subst (λ x. SpellsStatement names texts x ts rest) e s) [ ]

  block_statement_exact : (b : Statement) (ts rest : List Token) → SpellsBlockStatement names texts b ts rest → statement_height b ≤ suc h → Reads (block_statement_over names texts h p ts) b rest (GoesOn b rest)
  block_statement_exact _ ts rest (is_local f t vs c) low =
      let d = is_local f t vs c in
      rw (local_by ts (no_local_class ts d (λ e i. cc)) (local_begins names texts h d low)) (itself (local_read names texts h p below d low))
  block_statement_exact _ ts rest (is_local_class {d = d} l ms c) low =
      let s : SpellsLocalClass names texts d ts rest = is_local_class l ms c in
      let e = local_class_seen names texts ts s in
      let r = local_class_exact names texts h p below s low in
      itself (local_class_by ts e (rw e at r))
  block_statement_exact b ts rest (is_statement s) low =
      rw (statement_by ts (no_local_class ts (is_statement s) (statement_no_class s)) (statement_no_local names texts h ts s)) (statement_exact names texts h p below s low)

  pub layer_is_below : IsBelow names texts (suc h) (layer names texts h p)
  unfolding layer
  layer_is_below = record {
    expression = expressions_read;
    initializer = initializers_read;
    statement = statements_read;
    block_statement = record { sound = block_statement_sound; exact = λ b ts rest d fits low. block_statement_exact b ts rest d low };
    block = blocks_read;
    member = members_read;
  }
