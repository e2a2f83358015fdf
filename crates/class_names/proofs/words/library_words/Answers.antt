use Rattle.std.proofs.Common.{arith, ap, length, []}
use Rattle.class_names.specs.Words.{class_words, member_words}
use Rattle.class_names.proofs.Interning.{stay_by, stay_on, one_longer, all_longer, few_classes, few_members}
use Rattle.class_names.proofs.words.library_words.Goals as goal

pub returns-in_err-intern_classes-clause-stay : goal.returns-in_err-intern_classes-clause-stay
returns-in_err-intern_classes-clause-stay c =
    stay_by c.args.names.now c.intern.new.self c.intern_classes.new.names [] c.in_ok-intern.ensures.names c.intern_classes.ensures.stay

pub intern_members-requires : goal.intern_members-requires
intern_members-requires c = omega (
  arith,
  c.requires,
  few_classes,
  ap length c.in_ok-intern.ensures.names,
  one_longer c.args.names.now [],
  ap length c.in_ok-intern_classes.ensures.names,
  all_longer class_words c.intern.new.self,
)

pub returns-in_err-intern_members-clause-stay : goal.returns-in_err-intern_members-clause-stay
returns-in_err-intern_members-clause-stay c =
    stay_on c.args.names.now c.intern_classes.new.names c.intern_members.new.names
    (stay_by c.args.names.now c.intern.new.self c.intern_classes.new.names [] c.in_ok-intern.ensures.names c.intern_classes.ensures.stay)
    c.intern_members.ensures.stay

pub intern_further-requires : goal.intern_further-requires
intern_further-requires c = omega (
  arith,
  c.requires,
  few_classes,
  few_members,
  ap length c.in_ok-intern.ensures.names,
  one_longer c.args.names.now [],
  ap length c.in_ok-intern_classes.ensures.names,
  all_longer class_words c.intern.new.self,
  ap length c.in_ok-intern_members.ensures.names,
  all_longer member_words c.intern_classes.new.names,
)

pub returns-clause-stay : goal.returns-clause-stay
returns-clause-stay c =
    stay_on c.args.names.now c.intern_members.new.names c.intern_further.new.names
    (stay_on c.args.names.now c.intern_classes.new.names c.intern_members.new.names
    (stay_by c.args.names.now c.intern.new.self c.intern_classes.new.names [] c.in_ok-intern.ensures.names c.intern_classes.ensures.stay)
    c.intern_members.ensures.stay)
    c.intern_further.ensures.stay
