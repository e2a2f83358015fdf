use Rattle.type_laws.proofs.Lookahead.{cast_sound, cast_exact, local_sound, local_exact}
use Rattle.type_laws.proofs.written_types.looks_ahead.Goals as goal

pub returns : goal.returns
returns c = record {
  casts = λ ts. (cast_sound ts, λ b. cast_exact b);
  locals = λ most ts. (local_sound most ts, λ b. local_exact most b);
}
