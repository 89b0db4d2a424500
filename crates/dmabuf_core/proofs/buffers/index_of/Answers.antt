use Rattle.point_core.specs.declared.refusal.Refusal.TheVariants.{NoEntry}
use Rattle.dmabuf_core.proofs.Tables.{index-found, index-within, index-table, index-absent}
use Rattle.dmabuf_core.proofs.buffers.index_of.Goals as goal

pub returns-clause-index : goal.returns-clause-index
returns-clause-index c = rw c.ok_or.ensures.value (index-found c.args.map.now.entries c.args.name.now NoEntry c.get_index_of.result c.get_index_of.ensures.index)

pub returns-clause-within : goal.returns-clause-within
returns-clause-within c = rw c.ok_or.ensures.value (index-within c.args.map.now.entries c.args.name.now NoEntry c.get_index_of.result c.get_index_of.ensures.index)

pub returns-clause-table : goal.returns-clause-table
returns-clause-table c = rw c.ok_or.ensures.value (index-table c.args.map.now.entries c.args.name.now NoEntry c.get_index_of.result c.get_index_of.ensures.index)

pub returns-clause-absent : goal.returns-clause-absent
returns-clause-absent c = rw c.ok_or.ensures.value (index-absent c.args.map.now.entries c.args.name.now NoEntry c.get_index_of.result c.get_index_of.ensures.index)
