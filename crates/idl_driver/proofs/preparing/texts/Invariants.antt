use Rattle.std.proofs.Common.{◌≡◌, take, map}
use Rattle.idl_driver.proofs.preparing.texts.Given as goal

abbrev pub invariant-directories : goal.invariant-directories
invariant-directories l = map (λ bytes. bytes.now) l.list.items ≡ take l.directory-index l.directories
