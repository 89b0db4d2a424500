use Rattle.std.specs.Map.{lookup}
use Rattle.trace_core.specs.Life.{unborn, is_over}
use Rattle.trace_core.specs.Keys.{same_key}
use Rattle.trace_core.proofs.Puts.{put-kept, put-gone}
use Rattle.trace_core.proofs.lives.Lives.put.Goals as goal

-- src/lives.rt:48:13
pub returns-then-is_over-clause-put : goal.returns-then-is_over-clause-put
returns-then-is_over-clause-put c =
    λ k. put-gone unborn (same_key c.args.key k) (is_over c.args.life) c.args.life (lookup (same_key k) c.swap_remove.new.self.entries) (lookup (same_key k) c.args.self.now.by_key.entries) c.if-is_over.ensures (c.swap_remove.ensures.updates.0 k)

-- src/lives.rt:41:5
pub returns-clause-put : goal.returns-clause-put
returns-clause-put c =
    λ k. put-kept unborn (same_key c.args.key k) (is_over c.args.life) c.args.life (lookup (same_key k) c.insert.new.self.entries) (lookup (same_key k) c.args.self.now.by_key.entries) c.if-is_over.ensures (c.in-Ok.ensures.updates.0 k)
