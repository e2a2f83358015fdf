use Rattle.std.proofs.Common.{◌≡◌, true, false, refl, sym}
use Rattle.parse_laws.specs.way.Types.{modifiers_at}
use Rattle.parse_laws.specs.way.Members.{begins_initializer_at, begins_declared_at, begins_constructor_at, begins_method_at}
use Rattle.parse_below.specs.way.Readings.{below_at}
use Rattle.parse_members.proofs.Branches.{initializer_branch, declared_branch, constructor_branch, method_branch, field_branch}
use Rattle.parse_members.proofs.members.member.Goals as goal

pub returns-then-begins_initializer-clause-value : goal.returns-then-begins_initializer-clause-value
returns-then-begins_initializer-clause-value g c =
    let s = c.args.setting.now in
    let begins : begins_initializer_at c.args.tokens.now ≡ true = sym c.if-begins_initializer.ensures in
    let read = initializer_branch s.texts.now s.names.now s.below (below_at s) c.args.tokens.now begins in
    rw read c.initializer_block.ensures.value

pub returns-then-begins_declared-clause-value : goal.returns-then-begins_declared-clause-value
returns-then-begins_declared-clause-value g c =
    let s = c.args.setting.now in
    let rest = c.in_ok-modifiers.rest.now in
    let ms = c.in_ok-modifiers.modifiers.items in
    let no_initializer : begins_initializer_at c.args.tokens.now ≡ false = sym c.if-begins_initializer.ensures in
    let modified : modifiers_at s.names.now c.args.tokens.now ≡ (ms, rest) = sym c.in_ok-modifiers.ensures in
    let begins : begins_declared_at rest ≡ true = sym c.if-begins_declared.ensures in
    let read = declared_branch s.texts.now s.names.now s.below (below_at s) c.args.tokens.now rest ms _ c.first_span-first.ensures no_initializer modified begins in
    rw (read, c.as_member.ensures.value, c.in_ok-declared.ensures.value) refl

pub returns-then-begins_constructor-clause-value : goal.returns-then-begins_constructor-clause-value
returns-then-begins_constructor-clause-value g c =
    let s = c.args.setting.now in
    let rest = c.in_ok-modifiers.rest.now in
    let ms = c.in_ok-modifiers.modifiers.items in
    let no_initializer : begins_initializer_at c.args.tokens.now ≡ false = sym c.if-begins_initializer.ensures in
    let modified : modifiers_at s.names.now c.args.tokens.now ≡ (ms, rest) = sym c.in_ok-modifiers.ensures in
    let no_type : begins_declared_at rest ≡ false = sym c.if-begins_declared.ensures in
    let begins : begins_constructor_at rest ≡ true = sym c.if-begins_constructor.ensures in
    let read = constructor_branch s.texts.now s.names.now s.below (below_at s) c.args.tokens.now rest ms _ c.first_span-first.ensures no_initializer modified no_type begins in
    rw read c.constructor.ensures.value

pub returns-then-begins_method-clause-value : goal.returns-then-begins_method-clause-value
returns-then-begins_method-clause-value g c =
    let s = c.args.setting.now in
    let rest = c.in_ok-modifiers.rest.now in
    let ms = c.in_ok-modifiers.modifiers.items in
    let no_initializer : begins_initializer_at c.args.tokens.now ≡ false = sym c.if-begins_initializer.ensures in
    let modified : modifiers_at s.names.now c.args.tokens.now ≡ (ms, rest) = sym c.in_ok-modifiers.ensures in
    let no_type : begins_declared_at rest ≡ false = sym c.if-begins_declared.ensures in
    let no_constructor : begins_constructor_at rest ≡ false = sym c.if-begins_constructor.ensures in
    let begins : begins_method_at s.below rest ≡ true = sym c.if-begins_method.ensures in
    let read = method_branch s.texts.now s.names.now s.below (below_at s) c.args.tokens.now rest ms _ c.first_span-first.ensures no_initializer modified no_type no_constructor begins in
    rw read c.method.ensures.value

pub returns-clause-value : goal.returns-clause-value
returns-clause-value g c =
    let s = c.args.setting.now in
    let rest = c.in_ok-modifiers.rest.now in
    let ms = c.in_ok-modifiers.modifiers.items in
    let no_initializer : begins_initializer_at c.args.tokens.now ≡ false = sym c.if-begins_initializer.ensures in
    let modified : modifiers_at s.names.now c.args.tokens.now ≡ (ms, rest) = sym c.in_ok-modifiers.ensures in
    let no_type : begins_declared_at rest ≡ false = sym c.if-begins_declared.ensures in
    let no_constructor : begins_constructor_at rest ≡ false = sym c.if-begins_constructor.ensures in
    let no_method : begins_method_at s.below rest ≡ false = sym c.if-begins_method.ensures in
    let read = field_branch s.texts.now s.names.now s.below (below_at s) c.args.tokens.now rest ms _ c.first_span-first.ensures no_initializer modified no_type no_constructor no_method in
    rw read c.field.ensures.value
