-- Initializers are read right.
use Rattle.std.proofs.Common.{◌≡◌, ℕ, suc, ◌≤◌, true, false, List, IfSome, refl, arith, inl, inr}
use Rattle.je_token.specs.declared.symbol.Symbol.TheVariants as symbol
use Rattle.je_token.specs.declared.token.Token.{Token}
use Rattle.je_token.specs.declared.token.TokenKind.TheVariants as kind
use Rattle.je_ast.specs.Trees.{Expression, Members}
use Rattle.je_ast.specs.Height.{height}
use Rattle.je_grammar.specs.Tokens.{it_is}
use Rattle.je_grammar.specs.Operators.{level}
use Rattle.je_grammar.specs.Grammar.{Spells}
use Rattle.je_grammar.specs.Grammar.{SpellsInit, expression_init, array_init, SpellsArrayInit, is_array_init}
use Rattle.parse_laws.specs.way.Tokens.{Read, is_symbol}
use Rattle.parse_laws.specs.way.Below.{Below}
use Rattle.parse_laws.specs.way.Readers.{IsRead, IsBelow, Reads, itself, longer, reach, any}
use Rattle.parse_laws.specs.way.Expressions.{Closed, expression_layer, array_initializer_layer}
use Rattle.expression_laws.specs.way.Parts.{ReadTypes, ReadBodies}
use Rattle.std.specs.Prelude.{if◌then◌else◌}
use Rattle.std.proofs.lemmas.Bool.{cases_Bool}
use Rattle.parse_laws.proofs.Rules.{weaken, choose}
use Rattle.expression_laws.proofs.Begins.{lowest, open_brace_begins_none}
use Rattle.expression_laws.proofs.Primaries.{front_of}
use Rattle.expression_laws.proofs.Arrays.{array_initializer_sound}
use Rattle.expression_laws.proofs.ArraysExact.{array_initializer_exact}
use Rattle.expression_laws.proofs.Sound.{layer_sound}
use Rattle.expression_laws.proofs.Exact.{layer_exact}

module _ (names texts : List (List ℕ)) where
  brace_stands : {e : Expression} {ts rest : List Token} → SpellsArrayInit names texts e ts rest → is_symbol symbol.OpenBrace ts ≡ true
  brace_stands (is_array_init it_is i) = refl

  no_brace : {e : Expression} {ts rest : List Token} → Spells names texts e ts rest → is_symbol symbol.OpenBrace ts ≡ false
  no_brace {ts = ts} d = elim (cases_Bool (is_symbol symbol.OpenBrace ts)) [
    | inl t ↦ let f = front_of (kind.Symbol symbol.OpenBrace) ts t in absurd (open_brace_begins_none names texts f.1 d)
    | inr f ↦ f
  ]

  both_go_on : {o : Read Expression} {e : Expression} {rest : List Token} → 1 ≤ level e → Reads o e rest (1 ≤ reach rest) → Reads o e rest ((1 ≤ level e) × (1 ≤ reach rest))
  both_go_on le (itself q) = itself q
  both_go_on le (longer q lt g) = longer q lt (le, g)

  module _ (h : ℕ) (p : Below) (body : List Token → Closed Members) (below : IsBelow names texts h p) (bodies : ReadBodies names texts h body) (types : ReadTypes h) where
    abbrev initializer : List Token → Read Expression
    initializer ts = if is_symbol symbol.OpenBrace ts then array_initializer_layer texts h p body ts else expression_layer texts h p body 1 ts

    pub initializer_sound : (ts : List Token) → IfSome (initializer ts) (IsRead (SpellsInit names texts) height any (suc h) ts)
    initializer_sound ts =
        choose (is_symbol symbol.OpenBrace ts) _ _ (λ o. IfSome o (IsRead (SpellsInit names texts) height any (suc h) ts))
        (λ _. weaken (array_initializer_layer texts h p body ts) (IsRead (SpellsArrayInit names texts) height any (suc h) ts) _ (array_initializer_sound names texts h p body below ts)
        (λ x g. record { spelled = array_init g.spelled; fits = tt; within = g.within }))
        (λ _. weaken (expression_layer texts h p body 1 ts) (IsRead (Spells names texts) height (λ e. 1 ≤ level e) (suc h) ts) _ (layer_sound names texts h p body below bodies types 1 ts (omega arith) (omega arith))
        (λ x g. record { spelled = expression_init g.spelled; fits = tt; within = g.within }))

    pub initializer_exact : {e : Expression} {ts rest : List Token} → SpellsInit names texts e ts rest → height e ≤ suc h → Reads (initializer ts) e rest ((1 ≤ level e) × (1 ≤ reach rest))
    initializer_exact (expression_init d) low = rw (no_brace d) (both_go_on (lowest names texts d) (layer_exact names texts h p body below bodies types 1 d (omega arith) (omega arith) (lowest names texts d) low))
    initializer_exact (array_init d) low = rw (brace_stands d) (itself (array_initializer_exact names texts h p body below d low))
