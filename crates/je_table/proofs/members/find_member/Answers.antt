-- The row at the boundary has the key, or no row has it.
use Rattle.std.proofs.Common.{arith, sym, ◌&&◌}
use Rattle.std.specs.Str.{bytes_eq}
use Rattle.je_table.specs.Members.{key_of}
use Rattle.je_table.proofs.Keys.{key_cmp-total, key_tied}
use Rattle.je_table.proofs.Search.{found, absent}
use Rattle.je_table.proofs.members.find_member.Goals as goal
use Rattle.je_table.proofs.members.find_member.Goals.{else-at-rows-via-then-at-rows+else-eq, else-at-rows-via-else-at-rows}

pub returns-then-eq : goal.returns-then-eq
returns-then-eq c =
    found key_of key_cmp-total (c.args.class.now, c.args.signature.now) (λ key. bytes_eq key.0 c.args.class.now && bytes_eq key.1 c.args.signature.now) (key_tied _) c.args.rows.now c.count_before-at.result c.count_before-at.ensures _
    (omega arith) (sym c.if-eq.ensures)

pub returns-else-at-rows : goal.returns-else-at-rows
returns-else-at-rows c =
    absent key_of key_cmp-total (c.args.class.now, c.args.signature.now) (λ key. bytes_eq key.0 c.args.class.now && bytes_eq key.1 c.args.signature.now) (key_tied _) c.args.rows.now c.count_before-at.result c.count_before-at.ensures _ c.requires
    (λ lt. elim c.else-at-rows.branch [ else-at-rows-via-then-at-rows+else-eq w ↦ sym w.if-eq.ensures | else-at-rows-via-else-at-rows w ↦ absurd (omega arith) ])
