use Rattle.parse_laws.specs.way.Expressions.{arguments_at}
use Rattle.expression_laws.specs.Laws.{AreArguments}
use Rattle.parse_laws.proofs.Rules.{weaken}
use Rattle.expression_laws.proofs.Primaries.{GoodArguments, arguments_sound}
use Rattle.expression_laws.proofs.Inner.{arguments_exact}
use Rattle.expression_laws.proofs.laws.arguments_are_read.Goals as goal

pub returns : goal.returns
returns c = record {
  spelled = λ names texts h p body below bodies types ts. weaken (arguments_at texts h p body ts) (GoodArguments names texts h ts) (AreArguments names texts h ts) (arguments_sound names texts h p body below bodies types ts) (λ y g. record { spelled = g.spelled; within = g.within });
  read = λ names texts h p body below bodies types es k ts rest d low. arguments_exact names texts h p body below bodies types d low;
}
