use Rattle.idl_source.proofs.NormalLemmas.{joined-name, led_by_all-blank, led_by_all-dot, led_by_all-form, led_by_all-up}
use Rattle.idl_source.proofs.names.path.normal_form.Goals as goal

pub returns : goal.returns
returns c = record { blank = led_by_all-blank; dot = led_by_all-dot; up = led_by_all-up; form = led_by_all-form; name = joined-name }
