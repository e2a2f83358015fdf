use Rattle.std.proofs.Common.{◌≡◌, ◌++◌, take}
use Rattle.je_pages.proofs.pages.Pages.add.Given as goal

-- the values that stand there now are those before, and as many of the object's as were counted
abbrev pub invariant-loop-at : goal.invariant-loop-at
invariant-loop-at l = l.self ≡ l.fn.self ++ take l.at l.values
