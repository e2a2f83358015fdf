-- What contracts see of candidates.
use Rattle.std.specs.Prelude.{map}
use Rattle.name_types.specs.View.{shown}
use Rattle.call_typing.specs.Overloads.{Candidate}
use Rattle.overloads.specs.declared.candidate.Candidate.{Candidate as Kept}

abbrev pub candidate_seen : Kept → Candidate
candidate_seen m = record {
  class = m.class.0;
  place = m.place;
  flags = m.flags;
  parameters = map shown m.parameters.items;
  result = shown m.result;
  declared = shown m.declared;
  is_abstract = m.is_abstract;
}
