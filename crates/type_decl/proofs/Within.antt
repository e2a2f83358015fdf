-- Rounds until one changes nothing.
use Rattle.std.proofs.Common.{◌≡◌, ℕ, zero, suc, ◌+◌, ◌-◌, ◌≤◌, refl, sym, ap, ◌∙◌, arith}
use Rattle.std.specs.Prelude.{Bool, true, false, Option, Some, None, if◌then◌else◌}
use Rattle.std.specs.List.{sum_by}
use Rattle.je_classes.specs.Members.{Member}
use Rattle.je_classes.proofs.Lists.{bool_cases}
use Rattle.declarations.specs.Declarations.{DeclaredField}
use Rattle.name_typing.specs.Fields.{field_at}
use Rattle.name_typing.specs.Program.{Constant, Program}
use Rattle.program_tables.specs.Known.{round_seen}
use Rattle.class_typing.specs.ConstantFields.{constant_by, constant_next, constants_of, constants_within, field_value}
use Rattle.class_typing.specs.ConstantFields as words
use Rattle.field_values.specs.Values.{value_at}
use Rattle.type_decl.specs.declared.judging.Fields.{Fields}
use Rattle.type_decl.specs.way.Asked.{is_asked}
use Rattle.type_decl.specs.way.Rows.{constant_due, constant_for, fields_declared, next_seen}

module _ (p : Program) (hidden : ℕ → ℕ) (fields : Fields) (known : Member → Option Constant) (shows : value_at fields.values.now ≡ field_value p hidden) where
  abbrev within : ℕ → Member → Option Constant
  within n = constants_within p hidden (round_seen fields.round.now) n (is_asked fields.asked.now) known

  not-asked : (n : ℕ) (m : Member) → is_asked fields.asked.now m.class.0 ≡ false → within n m ≡ known m
  not-asked zero m e = refl
  not-asked (suc n) m e =
      ap (λ (b : Bool). if b then constant_next p hidden (round_seen fields.round.now) (within n) m else known m) e

  same-due : (f : Member → Option Constant) (m : Member) (o : Option DeclaredField) (v : words.FieldValue) →
      constant_for (record p { constants = f }) (round_seen fields.round.now m.class.0) m o v
      ≡ constant_by p hidden (round_seen fields.round.now) f m o v
  same-due f m None v = refl
  same-due f m (Some d) words.unwritten = refl
  same-due f m (Some d) words.no_value = refl
  same-due f m (Some d) (words.by e) = refl

  pub one_more : (n : ℕ) → next_seen p fields (within n) ≡ within (suc n)
  one_more n = λ i. λ m. here m i
    where
      asked-next : (m : Member) → constant_due (record p { constants = within n }) (round_seen fields.round.now m.class.0) m (value_at fields.values.now m)
          ≡ constant_next p hidden (round_seen fields.round.now) (within n) m
      asked-next m =
          ap (λ (value : Member → words.FieldValue). constant_due (record p { constants = within n }) (round_seen fields.round.now m.class.0) m (value m)) shows
          ∙ same-due (within n) m (field_at p.classes m) (field_value p hidden m)

      here : (m : Member) → next_seen p fields (within n) m ≡ within (suc n) m
      here m = bool_cases (λ b. is_asked fields.asked.now m.class.0 ≡ b →
          (if b then constant_due (record p { constants = within n }) (round_seen fields.round.now m.class.0) m (value_at fields.values.now m) else within n m)
          ≡ (if b then constant_next p hidden (round_seen fields.round.now) (within n) m else known m))
          (is_asked fields.asked.now m.class.0) (λ e h. asked-next m) (λ e h. not-asked n m h) refl

  settled : (n : ℕ) → within (suc n) ≡ within n → (k : ℕ) → within (k + n) ≡ within n
  settled n e zero = let q : zero + n ≡ n = omega arith in ap within q
  settled n e (suc k) =
      let q : suc k + n ≡ suc (k + n) = omega arith in
      ap within q ∙ sym (one_more (k + n)) ∙ ap (next_seen p fields) (settled n e k) ∙ one_more n ∙ e

  settled-then : (n most : ℕ) → n ≤ most → within (suc n) ≡ within n → within most ≡ within n
  settled-then n most l e = let q : most ≡ (most - n) + n = omega (arith, l) in ap within q ∙ settled n e (most - n)

  -- the rounds of the definition
  pub told_last : (f : Member → Option Constant) → f ≡ within (suc (sum_by fields_declared p.classes)) → f ≡ constants_of p hidden (round_seen fields.round.now) (is_asked fields.asked.now) known
  unfolding constants_of
  told_last f e = e

  pub told_settled : (f : Member → Option Constant) (n : ℕ) → n ≤ suc (sum_by fields_declared p.classes) → f ≡ within n → next_seen p fields f ≡ f →
      f ≡ constants_of p hidden (round_seen fields.round.now) (is_asked fields.asked.now) known
  told_settled f n l e h = told_last f (e ∙ sym (settled-then n (suc (sum_by fields_declared p.classes)) l (sym (one_more n) ∙ ap (next_seen p fields) (sym e) ∙ h ∙ e)))

-- one round in memory
module _ (p : Program) (fields : Fields) (known rows new : Member → Option Constant)
    (put : (m : Member) → new m ≡ (if is_asked fields.asked.now m.class.0 then rows m else known m)) where
  pub next_is : (q : Program) → q ≡ record p { constants = known } →
      ((m : Member) → is_asked fields.asked.now m.class.0 ≡ true → rows m ≡ constant_due q (round_seen fields.round.now m.class.0) m (value_at fields.values.now m)) →
      new ≡ next_seen p fields known
  next_is q e each = λ i. λ m. here m i
    where
      here : (m : Member) → new m ≡ next_seen p fields known m
      here m = put m ∙ bool_cases (λ b. is_asked fields.asked.now m.class.0 ≡ b → (if b then rows m else known m)
          ≡ (if b then constant_due (record p { constants = known }) (round_seen fields.round.now m.class.0) m (value_at fields.values.now m) else known m))
          (is_asked fields.asked.now m.class.0)
          (λ _ h. each m h ∙ ap (λ (k : Program). constant_due k (round_seen fields.round.now m.class.0) m (value_at fields.values.now m)) e) (λ _ h. refl) refl

  pub nothing_new : ((m : Member) → is_asked fields.asked.now m.class.0 ≡ true → rows m ≡ known m) → new ≡ known
  nothing_new same = λ i. λ m. here m i
    where
      here : (m : Member) → new m ≡ known m
      here m = put m ∙ bool_cases (λ b. is_asked fields.asked.now m.class.0 ≡ b → (if b then rows m else known m) ≡ known m)
          (is_asked fields.asked.now m.class.0) (λ _ h. same m h) (λ _ h. refl) refl
