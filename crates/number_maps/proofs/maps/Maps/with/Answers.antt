use Rattle.number_maps.proofs.Sharing.{is-tree, keeps, has_more}
use Rattle.number_maps.proofs.maps.Maps.with.Goals as goal

pub extended-requires : goal.extended-requires
extended-requires c = record { there = is-tree c.args.self.now c.args.self.now c.args.map c.requires.there }

pub returns-in_err-made-clause-keeps : goal.returns-in_err-made-clause-keeps
returns-in_err-made-clause-keeps c = keeps c.args.self.now c.extended.new.self c.in_err-made.ensures.bits c.in_err-made.ensures.grows

pub returns-clause-keeps : goal.returns-clause-keeps
returns-clause-keeps c = keeps c.args.self.now c.extended.new.self c.in_ok-made.ensures.bits c.in_ok-made.ensures.grows

pub returns-clause-made : goal.returns-clause-made
returns-clause-made c = has_more c.args.self.now c.extended.new.self c.args.map c.args.key c.args.value c.in_ok-made.made c.requires.key c.in_ok-made.ensures.bits c.in_ok-made.ensures.made
