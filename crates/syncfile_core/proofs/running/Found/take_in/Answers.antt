use Rattle.std.proofs.Common.{ap, ◌∙◌, ◌&&◌, nat_le, ℕ}
use Rattle.point_core.specs.Reach.{value_at}
use Rattle.syncfile_core.specs.SyncFile.{File}
use Rattle.syncfile_core.proofs.Passing.{HasFoundTo-more}
use Rattle.syncfile_core.proofs.running.Found.take_in.Goals as goal

pub returns : goal.returns
returns c = record {
  more = λ clocks n is at h.
      let before = c.args.self.now in
      HasFoundTo-more clocks c.args.file.now n c.args.ctx c.get.result c.args.clock before c.pass.new.self is at
      (c.get.ensures.value ∙ ap (λ (f : File). value_at f.floor c.args.ctx) c.file.view_is)
      (c.pass.ensures.others ∙ ap (λ (v : ℕ). before.borne_out && nat_le c.get.result v) c.reached.ensures)
      (c.pass.ensures.passed clocks c.args.file.now.points n is at h.points) h;
}
