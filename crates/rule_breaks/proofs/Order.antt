-- The order of breaks is total, and tells each break from every other.
use Rattle.std.proofs.Common.{◌≡◌, ℕ, [], ◌∷◌, slice_index_or, refl, ap, sym, ◌∙◌}
use Rattle.std.specs.declared.cmp.Ordering.{Ordering}
use Rattle.std.specs.declared.cmp.Ordering.TheVariants.{Less, Equal, Greater}
use Rattle.std.specs.Cmp.{IsTotalOrder}
use Rattle.std.specs.Ordering.{nat_cmp, on, then_cmp, ordering_then}
use Rattle.std.proofs.lemmas.Cmp.{nat_cmp_total, on_total, then_total}
use Rattle.std.proofs.lemmas.Map.Lookups.{exact_unsigned}
use Rattle.rule_breaks.specs.declared.rules.ConfinementRule.{ConfinementRule}
use Rattle.rule_breaks.specs.declared.rules.ConfinementRule.TheVariants as rule
use Rattle.rule_breaks.specs.declared.breaks.Break.{Break}
use Rattle.rule_breaks.specs.Breaks.{number_of, break_order}

pub break-order-total : IsTotalOrder break_order
break-order-total = then_total (then_total (then_total (on_total (λ (b : Break). b.span.file) nat_cmp_total) (on_total (λ (b : Break). b.span.start) nat_cmp_total)) (on_total (λ (b : Break). b.span.end) nat_cmp_total)) (on_total (λ (b : Break). number_of b.rule) nat_cmp_total)

-- the rule of a number
abbrev rule_of : ℕ → ConfinementRule
rule_of n = slice_index_or (rule.StaticField ∷ rule.StaticField ∷ rule.ImmutableField ∷ rule.PowerlessField ∷ rule.SelflessClass ∷ rule.SelflessEquatable ∷ rule.ThisEscapes ∷ rule.CapturedLocal ∷ rule.EnclosingObject ∷ rule.IdentityComparison ∷ rule.ObjectText ∷ rule.NativeMethod ∷ rule.Finalizer ∷ rule.CatchError ∷ rule.Finally ∷ rule.NotEnabled ∷ rule.NotExtensible ∷ []) n rule.StaticField

rule-of-number : (r : ConfinementRule) → rule_of (number_of r) ≡ r
rule-of-number rule.StaticField = refl
rule-of-number rule.ImmutableField = refl
rule-of-number rule.PowerlessField = refl
rule-of-number rule.SelflessClass = refl
rule-of-number rule.SelflessEquatable = refl
rule-of-number rule.ThisEscapes = refl
rule-of-number rule.CapturedLocal = refl
rule-of-number rule.EnclosingObject = refl
rule-of-number rule.IdentityComparison = refl
rule-of-number rule.ObjectText = refl
rule-of-number rule.NativeMethod = refl
rule-of-number rule.Finalizer = refl
rule-of-number rule.CatchError = refl
rule-of-number rule.Finally = refl
rule-of-number rule.NotEnabled = refl
rule-of-number rule.NotExtensible = refl

same-rule : (r s : ConfinementRule) → number_of r ≡ number_of s → r ≡ s
same-rule r s h = sym (rule-of-number r) ∙ ap rule_of h ∙ rule-of-number s

both-equal : (a b : Ordering) → ordering_then a b ≡ Equal → (a ≡ Equal) × (b ≡ Equal)
both-equal Less b h = cc
both-equal Equal b h = (refl, h)
both-equal Greater b h = cc

-- breaks that tie are one
pub same-break : (x y : Break) → break_order x y ≡ Equal → x ≡ y
same-break x y h =
    let p = both-equal (then_cmp (then_cmp (on (λ (b : Break). b.span.file) nat_cmp) (on (λ (b : Break). b.span.start) nat_cmp)) (on (λ (b : Break). b.span.end) nat_cmp) x y) (nat_cmp (number_of x.rule) (number_of y.rule)) h in
    let q = both-equal (then_cmp (on (λ (b : Break). b.span.file) nat_cmp) (on (λ (b : Break). b.span.start) nat_cmp) x y) (nat_cmp x.span.end y.span.end) p.0 in
    let r = both-equal (nat_cmp x.span.file y.span.file) (nat_cmp x.span.start y.span.start) q.0 in
    let at_file : x.span.file ≡ y.span.file = exact_unsigned _ _ r.0 in
    let at_start : x.span.start ≡ y.span.start = exact_unsigned _ _ r.1 in
    let at_end : x.span.end ≡ y.span.end = exact_unsigned _ _ q.1 in
    let of_rule : x.rule ≡ y.rule = same-rule x.rule y.rule (exact_unsigned _ _ p.1) in
    λ i. record { rule = of_rule i; span = record { file = at_file i; start = at_start i; end = at_end i } }
