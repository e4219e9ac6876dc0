use Rattle.std.proofs.Common.{◌∙◌, inl, inr}
use Rattle.idl_driver.proofs.LoadingLemmas.{on_ok}
use Rattle.idl_driver.proofs.loading.Loading.take_bytes.Goals as goal

pub returns-in-Ok-clause-taken : goal.returns-in-Ok-clause-taken
returns-in-Ok-clause-taken c = inl c.in-Ok.ensures.put

pub returns-in-Err-clause-taken : goal.returns-in-Err-clause-taken
returns-in-Err-clause-taken c = on_ok c.meet.result (inr (c.meet.ensures.sources ∙ c.in-Err.ensures.same))
