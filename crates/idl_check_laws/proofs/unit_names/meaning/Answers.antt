use Rattle.idl_check_laws.proofs.Visits.MeaningLaws.{unit-denotes}
use Rattle.idl_env.specs.Turns.{most_turns}
use Rattle.idl_check_laws.proofs.unit_names.meaning.Goals as goal

pub returns : goal.returns
returns c = λ tokens tree front way name back none spelled sites. unit-denotes c.args.env.now most_turns tokens tree front way name back c.bounds_turns.ensures none spelled sites
