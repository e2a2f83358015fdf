-- No variable looks at another: where two sets agree at a variable, so do the sets that are made of them. `G` is what that is
-- known under: by what ways a statement is left is the same whatever the sets.
use Rattle.std.proofs.Common.{◌≡◌, ℕ, Bool, true, false, ◌&&◌, ◌||◌, Option, Some, None, List, [], ◌∷◌, if◌then◌else◌, refl, subst}
use Rattle.std.specs.Prelude.{nat_eq}
use Rattle.je_base.specs.declared.span.NameId.{NameId}
use Rattle.je_core.specs.Core.{CoreLabel}
use Rattle.flow_base.specs.declared.jumps.Way.{Way}
use Rattle.flow_base.specs.declared.jumps.Way.TheVariants.{Breaks, Continues}
use Rattle.flow_base.specs.Ways.{same_way}
use Rattle.variable_sets.specs.Numbers.{local_number}
use Rattle.variable_sets.specs.Sets.{Set, everything, both, either, adding, removing}
use Rattle.variable_sets.specs.ExitSets.{Exits, no_exits, exit_by, met, beyond, gaining, limited}
use Rattle.assignment_rules.specs.declared.rules.Rule.{Rule}
use Rattle.assignment_rules.specs.declared.rules.Rule.TheVariants.{Assigned, Unassigned}
use Rattle.assignment_rules.specs.Rules.{marking, declaring, declared, entry, handled}
use Rattle.assignment_rules.specs.Ends.{Ends, going_on, jumping, one_of, in_turn, at_continues, past_label, bottom, loop_ends, labelled_ends, entering, switch_ends, past_finally, jump_ends}

pub record Agree (G : Type 0) (v : ℕ) (a b : Set) : Type 0 where
  pub at : G → a.has v ≡ b.has v

pub record AgreeExits (G : Type 0) (v : ℕ) (a b : Exits) : Type 0 where
  pub by : (w : Way) → Agree G v (a.by w) (b.by w)
  pub there : (w : Way) → a.is_there w ≡ b.is_there w

pub record AgreeEnds (G : Type 0) (v : ℕ) (a b : Ends) : Type 0 where
  pub after : Agree G v a.after b.after
  pub exits : AgreeExits G v a.exits b.exits

-- ---- sets

module _ {G : Type 0} {v : ℕ} where
  pub both_agree : {a b c d : Set} → Agree G v a b → Agree G v c d → Agree G v (both a c) (both b d)
  unfolding both
  both_agree p q = record { at = λ g. λ i. p.at g i && q.at g i }

  pub either_agree : {a b c d : Set} → Agree G v a b → Agree G v c d → Agree G v (either a c) (either b d)
  unfolding either
  either_agree p q = record { at = λ g. λ i. p.at g i || q.at g i }

  pub adding_agree : (x : ℕ) {a b : Set} → Agree G v a b → Agree G v (adding x a) (adding x b)
  unfolding adding
  adding_agree x p = record { at = λ g. λ i. if nat_eq v x then true else p.at g i }

  pub removing_agree : (x : ℕ) {a b : Set} → Agree G v a b → Agree G v (removing x a) (removing x b)
  unfolding removing
  removing_agree x p = record { at = λ g. λ i. if nat_eq v x then false else p.at g i }

  pub same_agree : (a : Set) → Agree G v a a
  same_agree a = record { at = λ g. refl }

  pub marking_agree : (rule : Rule) (x : ℕ) {a b : Set} → Agree G v a b → Agree G v (marking rule x a) (marking rule x b)
  marking_agree Assigned x p = adding_agree x p
  marking_agree Unassigned x p = removing_agree x p

  declaring_agree : (rule : Rule) (x : ℕ) {a b : Set} → Agree G v a b → Agree G v (declaring rule x a) (declaring rule x b)
  declaring_agree Assigned x p = removing_agree x p
  declaring_agree Unassigned x p = adding_agree x p

  pub declared_agree : (rule : Rule) (xs : List ℕ) {a b : Set} → Agree G v a b → Agree G v (declared rule xs a) (declared rule xs b)
  declared_agree rule [] p = p
  declared_agree rule (x ∷ xs) p = declared_agree rule xs (declaring_agree rule (local_number x) p)

  pub entry_agree : (rule : Rule) (t : Set) {a b : Set} → Agree G v a b → Agree G v (entry rule a t) (entry rule b t)
  entry_agree Assigned t p = p
  entry_agree Unassigned t p = both_agree p (same_agree t)

  pub handled_agree : (rule : Rule) (t : Set) {a b : Set} → Agree G v a b → Agree G v (handled rule a t) (handled rule b t)
  handled_agree Assigned t p = p
  handled_agree Unassigned t p = both_agree p (same_agree t)

  -- ---- exits

  pub none_agree : AgreeExits G v no_exits no_exits
  none_agree = record { by = λ w. same_agree (no_exits.by w); there = λ w. refl }

  by_one_way : (t : Bool) {a b : Set} → Agree G v a b → Agree G v (if t then a else everything) (if t then b else everything)
  by_one_way true p = p
  by_one_way false p = same_agree everything

  pub one_agree : (w : Way) {a b : Set} → Agree G v a b → AgreeExits G v (exit_by w a) (exit_by w b)
  unfolding exit_by
  one_agree w p = record { by = λ u. by_one_way (same_way w u) p; there = λ u. refl }

  pub met_agree : {a b c d : Exits} → AgreeExits G v a b → AgreeExits G v c d → AgreeExits G v (met a c) (met b d)
  unfolding met
  met_agree p q = record { by = λ w. both_agree (p.by w) (q.by w); there = λ w. λ i. p.there w i || q.there w i }

  by_other_ways : (t : Bool) {a b : Set} → Agree G v a b → Agree G v (if t then everything else a) (if t then everything else b)
  by_other_ways true p = same_agree everything
  by_other_ways false p = p

  pub beyond_agree : (w : Way) {a b : Exits} → AgreeExits G v a b → AgreeExits G v (beyond w a) (beyond w b)
  unfolding beyond
  beyond_agree w p = record { by = λ u. by_other_ways (same_way w u) (p.by u); there = λ u. λ i. if same_way w u then false else p.there u i }

  gaining_agree : {g h : Set} {a b : Exits} → Agree G v g h → AgreeExits G v a b → AgreeExits G v (gaining g a) (gaining h b)
  unfolding gaining
  gaining_agree q p = record { by = λ w. either_agree (p.by w) q; there = p.there }

  limited_at : (t : Bool) {a b g h : Set} → Agree G v a b → Agree G v g h → Agree G v (if t then both a g else a) (if t then both b h else b)
  limited_at true p q = both_agree p q
  limited_at false p q = p

  limited_by : (s t : Bool) (a b g h : Set) → s ≡ t → Agree G v a b → Agree G v g h → Agree G v (if s then both a g else a) (if t then both b h else b)
  limited_by s t a b g h e p q = subst (λ (u : Bool). Agree G v (if s then both a g else a) (if u then both b h else b)) e (limited_at s p q)

  limited_agree : {g h : Set} {a b : Exits} → Agree G v g h → AgreeExits G v a b → AgreeExits G v (limited g a) (limited h b)
  unfolding limited
  limited_agree {g = g} {h = h} {a = a} {b = b} q p = record {
    by = λ w. limited_by (a.is_there w) (b.is_there w) (a.by w) (b.by w) g h (p.there w) (p.by w) q;
    there = p.there;
  }

  -- ---- what a statement leaves

  pub going_on_agree : {a b : Set} → Agree G v a b → AgreeEnds G v (going_on a) (going_on b)
  going_on_agree p = record { after = p; exits = none_agree }

  pub jumping_agree : {a b : Exits} → AgreeExits G v a b → AgreeEnds G v (jumping a) (jumping b)
  jumping_agree p = record { after = same_agree everything; exits = p }

  pub one_of_agree : {a b c d : Ends} → AgreeEnds G v a b → AgreeEnds G v c d → AgreeEnds G v (one_of a c) (one_of b d)
  one_of_agree p q = record { after = both_agree p.after q.after; exits = met_agree p.exits q.exits }

  pub in_turn_agree : {a b c d : Ends} → AgreeEnds G v a b → AgreeEnds G v c d → AgreeEnds G v (in_turn a c) (in_turn b d)
  in_turn_agree p q = record { after = q.after; exits = met_agree p.exits q.exits }

  continues_agree : (label : Option NameId) {a b : Exits} → AgreeExits G v a b → Agree G v (at_continues label a) (at_continues label b)
  continues_agree None p = p.by (Continues None)
  continues_agree (Some label) p = both_agree (p.by (Continues None)) (p.by (Continues (Some label)))

  past_label_agree : (label : Option NameId) {a b : Exits} → AgreeExits G v a b → AgreeExits G v (past_label label a) (past_label label b)
  past_label_agree None p = p
  past_label_agree (Some label) p = beyond_agree (Continues (Some label)) p

  pub bottom_agree : (label : Option NameId) {a b : Ends} → AgreeEnds G v a b → Agree G v (bottom label a) (bottom label b)
  bottom_agree label p = both_agree p.after (continues_agree label p.exits)

  pub loop_agree : (label : Option NameId) {a b : Ends} {c d : Set} → AgreeEnds G v a b → Agree G v c d → AgreeEnds G v (loop_ends label a c) (loop_ends label b d)
  loop_agree label p q = record {
    after = both_agree q (p.exits.by (Breaks None));
    exits = past_label_agree label (beyond_agree (Continues None) (beyond_agree (Breaks None) p.exits));
  }

  pub labelled_agree : (label : NameId) {a b : Ends} → AgreeEnds G v a b → AgreeEnds G v (labelled_ends label a) (labelled_ends label b)
  labelled_agree label p = record {
    after = both_agree p.after (p.exits.by (Breaks (Some label)));
    exits = beyond_agree (Breaks (Some label)) p.exits;
  }

  pub entering_agree : (labels : List CoreLabel) {a b c d : Set} → Agree G v a b → Agree G v c d → Agree G v (entering a labels c) (entering b labels d)
  entering_agree [] p q = q
  entering_agree (l ∷ ls) p q = both_agree q p

  or_start : (t : Bool) {a b c d : Set} → Agree G v a b → Agree G v c d → Agree G v (if t then a else both a c) (if t then b else both b d)
  or_start true p q = p
  or_start false p q = both_agree p q

  pub switch_agree : (default : Bool) {a b : Set} {c d : Ends} → Agree G v a b → AgreeEnds G v c d → AgreeEnds G v (switch_ends default a c) (switch_ends default b d)
  switch_agree default p q = record {
    after = both_agree (or_start default q.after p) (q.exits.by (Breaks None));
    exits = beyond_agree (Breaks None) q.exits;
  }

  pub finally_agree : (rule : Rule) {a b c d : Ends} → AgreeEnds G v a b → AgreeEnds G v c d → AgreeEnds G v (past_finally rule a c) (past_finally rule b d)
  finally_agree Assigned p q = record { after = either_agree p.after q.after; exits = met_agree (gaining_agree q.after p.exits) q.exits }
  finally_agree Unassigned p q = record { after = both_agree p.after q.after; exits = met_agree (limited_agree q.after p.exits) q.exits }

  pub jump_agree : (again : Bool) (label : Option NameId) {a b : Set} → Agree G v a b → AgreeEnds G v (jump_ends a again label) (jump_ends b again label)
  jump_agree false label p = jumping_agree (one_agree (Breaks label) p)
  jump_agree true label p = jumping_agree (one_agree (Continues label) p)
