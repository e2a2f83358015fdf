use Rattle.std.proofs.Common.{length, refl}
use Rattle.std.proofs.lemmas.Option.{slice_get_read}
use Rattle.class_places.proofs.Using.{adds-one}
use Rattle.class_places.proofs.users.Users.add.Goals as goal

pub returns-in_ok-push : goal.returns-in_ok-push
returns-in_ok-push c = adds-one c.args.self.now _ c.args.class.0 c.args.user c.in-Some.list.now c.push.new.self
    (slice_get_read c.args.self.now.lists.items (length c.args.self.now.lists.items) c.args.class.0 c.in-Some.list.now refl c.in-Some.ensures.item.3.0 c.in-Some.ensures.item.1)
    refl c.in_ok-push.ensures.items
