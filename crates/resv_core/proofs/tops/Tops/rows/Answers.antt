use Rattle.std.proofs.Common.{refl}
use Rattle.point_core.specs.declared.entry.Usage.TheVariants.{Kernel, Write, Read, Bookkeep}
use Rattle.point_core.proofs.Values.{IsAtLeast-refl}
use Rattle.resv_core.specs.Resv.{rows_at}
use Rattle.resv_core.proofs.Rows.{rows_at-IsLatest, rows-join}
use Rattle.resv_core.proofs.tops.Tops.rows.Goals as goal

pub returns-clause-risen : goal.returns-clause-risen
returns-clause-risen c = λ lower es tell high.
    let reach = c.args.reach.now in
    let kernel = rows_at-IsLatest Kernel refl tell.kernel high in
    let write = rows_at-IsLatest Write refl tell.write high in
    let read = rows_at-IsLatest Read refl tell.read high in
    let bookkeep = rows_at-IsLatest Bookkeep refl tell.bookkeep high in
    let first = rw c.in_ok-rows.ensures.items at c.push_rows.ensures.rows in
    let second = c.push_rows-2.ensures.rows in
    let third = c.push_rows-3.ensures.rows in
    let last = c.push_rows-4.ensures.rows in
    let join = rows-join (rows_at es reach Kernel) (rows_at es reach Write) (rows_at es reach Read) (rows_at es reach Bookkeep) in
    cc

pub returns-clause-rows : goal.returns-clause-rows
returns-clause-rows c = λ es tell. returns-clause-risen c c.args.reach.now es tell (IsAtLeast-refl c.args.reach.now)
