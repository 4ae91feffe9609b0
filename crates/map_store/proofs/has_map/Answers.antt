use Rattle.std.proofs.Common.{◌∙◌, sym}
use borrow.Author.Tests.{ne_eqb}
use Rattle.map_store.proofs.Asking.{has_one, has_none}
use Rattle.map_store.proofs.has_map.Goals as goal

pub returns-then-store-eq1 : goal.returns-then-store-eq1
returns-then-store-eq1 c = sym (has_one _ _ c.if-store-eq1.true)

pub returns-else-store-eq1 : goal.returns-else-store-eq1
returns-else-store-eq1 c = ne_eqb _ _ c.if-store-eq1.false ∙ sym (has_none _ _ c.if-store-eq1.false)
