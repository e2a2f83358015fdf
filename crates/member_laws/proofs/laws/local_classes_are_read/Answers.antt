use Rattle.parse_laws.specs.way.Readers.{itself}
use Rattle.member_laws.proofs.LocalClasses.{local_class_seen, local_class_sound, local_class_exact}
use Rattle.member_laws.proofs.LocalOnly.{only_local_class}
use Rattle.member_laws.proofs.laws.local_classes_are_read.Goals as goal

pub returns : goal.returns
returns c = record {
  read = λ names texts h p below. record {
    sound = λ ts. local_class_sound names texts h p below ts;
    exact = λ d ts rest s any_one low. itself (local_class_exact names texts h p below s low);
  };
  seen = λ names texts d ts rest s. local_class_seen names texts ts s;
  alone = λ names texts b ts rest s e. only_local_class names texts ts s e;
}
