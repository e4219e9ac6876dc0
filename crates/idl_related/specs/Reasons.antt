-- Why a second place is told, in words.
use Rattle.std.specs.Prelude.{ℕ, List, codes}
use Rattle.idl_related.specs.declared.second.Reason.{Reason}
use Rattle.idl_related.specs.declared.second.Reason.TheVariants as reason

abbrev pub reason_words : Reason → List ℕ
reason_words reason.Declared = codes "declared"
reason_words reason.Used = codes "used before"
reason_words reason.Named = codes "named before"
reason_words reason.Labelled = codes "label before"
reason_words reason.Given = codes "given before"
reason_words reason.Faulty = codes "has an error itself"
reason_words reason.Near = codes "near"
