-- What an opened item leaves.
use Rattle.std.proofs.Common.{◌≡◌, ℕ, false, List, refl, arith}
use Rattle.je_token.specs.declared.symbol.Symbol.TheVariants as symbol
use Rattle.je_token.specs.declared.token.Token.{Token}
use Rattle.je_grammar.specs.Tokens.{it_is}
use Rattle.je_grammar.specs.Place.{Context, HasBracket, of_body, of_constructor, of_block, Opens, opens_class, opens_interface, opens_local_class, opens_method, opens_constructor, opens_initializer, opens_static_initializer, opens_block}
use Rattle.parse_laws.specs.way.Tokens.{is_symbol}
use Rattle.je_grammar.proofs.Sizes.{size-SpellsModifiers, size-SpellsTypeParameters, size-SpellsExtends, size-SpellsImplements, size-SpellsExtendsAll, size-SpellsResult, size-SpellsFormals, size-SpellsThrows}
use Rattle.type_laws.proofs.Types.{name_front}
use Rattle.member_laws.proofs.Fronts.{MemberFront, class_front, interface_front, type_front, result_begins, member_stops, modifiers_begin}
use Rattle.place_laws.proofs.Nests.{level-SpellsModifiers, level-SpellsTypeParameters, level-SpellsExtends, level-SpellsImplements, level-SpellsExtendsAll, level-SpellsResult, level-SpellsFormals, level-SpellsThrows}
use Rattle.place_laws.proofs.Items.{Leaves}

no_bracket_first : {ts : List Token} → MemberFront ts → is_symbol symbol.CloseBrace ts ≡ false
no_bracket_first f = rw (member_stops f).0 refl

module _ (names texts : List (List ℕ)) (most : ℕ) where
  pub opens_leave : {x y : Context} {ts inner : List Token} → Opens names texts most x y ts inner → Leaves names texts most ts inner
  opens_leave (opens_class has m it_is it_is ps e is it_is low) =
      let a = size-SpellsModifiers names texts m in let b = size-SpellsTypeParameters ps in let c = size-SpellsExtends e in let d = size-SpellsImplements is in
      let f = (level-SpellsModifiers names texts m).ended in let g = (level-SpellsTypeParameters ps).ended in let i = (level-SpellsExtends e).ended in let j = (level-SpellsImplements is).ended in
      record { no_bracket = no_bracket_first (modifiers_begin names m (class_front it_is)); shorter = omega arith; ended = cc }
  opens_leave (opens_interface has m it_is it_is ps es it_is low) =
      let a = size-SpellsModifiers names texts m in let b = size-SpellsTypeParameters ps in let c = size-SpellsExtendsAll es in
      let f = (level-SpellsModifiers names texts m).ended in let g = (level-SpellsTypeParameters ps).ended in let i = (level-SpellsExtendsAll es).ended in
      record { no_bracket = no_bracket_first (modifiers_begin names m (interface_front it_is)); shorter = omega arith; ended = cc }
  opens_leave (opens_local_class has l m it_is it_is ps e is it_is low) =
      let a = size-SpellsModifiers names texts m in let b = size-SpellsTypeParameters ps in let c = size-SpellsExtends e in let d = size-SpellsImplements is in
      let f = (level-SpellsModifiers names texts m).ended in let g = (level-SpellsTypeParameters ps).ended in let i = (level-SpellsExtends e).ended in let j = (level-SpellsImplements is).ended in
      record { no_bracket = no_bracket_first (modifiers_begin names m (class_front it_is)); shorter = omega arith; ended = cc }
  opens_leave (opens_method m r it_is fs ns it_is low) =
      let a = size-SpellsModifiers names texts m in let b = size-SpellsResult r in let c = size-SpellsFormals fs in let d = size-SpellsThrows ns in
      let f = (level-SpellsModifiers names texts m).ended in let g = (level-SpellsResult r).ended in let i = (level-SpellsFormals fs).ended in let j = (level-SpellsThrows ns).ended in
      record { no_bracket = no_bracket_first (modifiers_begin names m (result_begins r)); shorter = omega arith; ended = cc }
  opens_leave (opens_constructor m it_is fs ns it_is low) =
      let a = size-SpellsModifiers names texts m in let c = size-SpellsFormals fs in let d = size-SpellsThrows ns in
      let f = (level-SpellsModifiers names texts m).ended in let i = (level-SpellsFormals fs).ended in let j = (level-SpellsThrows ns).ended in
      record { no_bracket = no_bracket_first (modifiers_begin names m (type_front (name_front it_is))); shorter = omega arith; ended = cc }
  opens_leave (opens_initializer it_is) = record { no_bracket = refl; shorter = omega arith; ended = refl }
  opens_leave (opens_static_initializer it_is it_is) = record { no_bracket = refl; shorter = omega arith; ended = refl }
  opens_leave (opens_block has it_is) = record { no_bracket = refl; shorter = omega arith; ended = refl }

  pub opens_bracket : {x y : Context} {ts inner : List Token} → Opens names texts most x y ts inner → HasBracket y
  opens_bracket (opens_class has m w t ps e is o low) = of_body
  opens_bracket (opens_interface has m w t ps es o low) = of_body
  opens_bracket (opens_local_class has l m w t ps e is o low) = of_body
  opens_bracket (opens_method m r i fs ns o low) = of_block
  opens_bracket (opens_constructor m i fs ns o low) = of_constructor
  opens_bracket (opens_initializer o) = of_block
  opens_bracket (opens_static_initializer w o) = of_block
  opens_bracket (opens_block has o) = of_block
