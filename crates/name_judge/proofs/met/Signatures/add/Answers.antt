use Rattle.std.proofs.Common.{◌≡◌, Bool, true, false, not, refl, ap, ◌∙◌}
use Rattle.std.specs.List.{list_any}
use Rattle.name_sites.specs.View.{source_of}
use Rattle.name_lookup.specs.View.{known_of}
use Rattle.name_judge.specs.Kept.{holds, spells}
use Rattle.name_judge.proofs.Keeping.{list_is, repeats_are, met_more, kept_more}
use Rattle.name_judge.proofs.met.Signatures.add.Goals as goal

not-not : (a b : Bool) → a ≡ not b → not a ≡ b
not-not true true e = absurd (cc)
not-not true false e = refl
not-not false true e = refl
not-not false false e = absurd (cc)

pub returns-clause-repeats : goal.returns-clause-repeats
unfolding holds
returns-clause-repeats c = λ earlier m are head.
    not-not c.in_ok-is_new.is_new (list_any (spells c.in_ok-list.list.items) c.args.self.now.lists.keys) c.in_ok-is_new.ensures.added
    ∙ repeats_are (source_of c.args.sites.now) c.args.head.place.class.0 c.in_ok-list.list.items m earlier
    (c.in_ok-list.ensures ∙ list_is (source_of c.args.sites.now) (known_of c.args.headers.now) c.args.head m c.requires.settled head) c.args.self.now are

pub returns-clause-met : goal.returns-clause-met
unfolding holds
returns-clause-met c = λ earlier m are head.
    met_more (source_of c.args.sites.now) c.args.head.place.class.0 c.in_ok-list.list.items m earlier
    (c.in_ok-list.ensures ∙ list_is (source_of c.args.sites.now) (known_of c.args.headers.now) c.args.head m c.requires.settled head) c.args.self.now _
    (λ l. ap (list_any (spells l)) c.in_ok-is_new.ensures.keys ∙ kept_more c.args.self.now.lists.keys c.in_ok-list.list l) are
