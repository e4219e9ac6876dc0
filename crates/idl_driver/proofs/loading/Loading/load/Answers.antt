use Rattle.std.proofs.Common.{ap}
use Rattle.std.proofs.lemmas.Result.{on_ok_weaker}
use Rattle.idl_source.specs.texts.Cut.{cut_lines}
use Rattle.idl_loader.specs.Holding.{IsFileOf}
use Rattle.idl_driver.proofs.LoadingLemmas.{loading-kept, loading-taken, on_ok}
use Rattle.idl_driver.proofs.loading.Loading.load.Goals as goal

pub returns-in-Bytes : goal.returns-in-Bytes
returns-in-Bytes g c =
    let told = g.L.Loader.told c.args.loader.now in
    let name = c.args.name.now in
    let lines = cut_lines c.deref.result.now in
    let own : IsFileOf told name lines = (c.in-Bytes.bytes.items, c.in-Bytes.ensures.gives, ap cut_lines c.deref.ensures.value) in
    on_ok_weaker c.take_bytes.result
    (λ taken. loading-taken told _ c.args.self.now c.take_bytes.new.self name lines c.in-Bytes.ensures.stays own taken c.take_bytes.ensures.missing) c.take_bytes.ensures.taken

pub returns-in-Failed : goal.returns-in-Failed
returns-in-Failed g c =
    on_ok c.meet.result
    (loading-kept (g.L.Loader.told c.args.loader.now) _ c.args.self.now c.meet.new.self c.in-Failed.ensures.stays c.meet.ensures.sources c.meet.ensures.missing)
