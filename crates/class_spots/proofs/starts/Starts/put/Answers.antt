use Rattle.std.specs.HashMap.{get}
use Rattle.class_spots.specs.Starts.{kept, same_key}
use Rattle.class_spots.proofs.Keys.{puts}
use Rattle.class_spots.proofs.starts.Starts.put.Goals as goal

pub returns-in_ok-insert-in-None : goal.returns-in_ok-insert-in-None
unfolding kept
returns-in_ok-insert-in-None c = λ q. puts (λ g t. get same_key c.args.self.now.classes (g, t)) (λ g t. get same_key c.insert.new.self (g, t)) c.args.span.file c.args.span.start c.args.class
    c.in-None.ensures (λ g t. c.in_ok-insert-in-None.ensures.updates.0 (g, t)) q.file q.start
