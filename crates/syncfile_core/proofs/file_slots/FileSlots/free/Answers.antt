use Rattle.std.proofs.Common.{◌≡◌, ◌≤◌, ◌<◌, true, false, length, refl, sym, ◌∙◌, arith}
use Rattle.syncfile_core.specs.Files.{has_file}
use Rattle.syncfile_core.specs.declared.files.TheConstants.{FILES}
use Rattle.syncfile_core.proofs.Causes.{cause_to_refuse-there, cause_to_refuse-full, cause_to_refuse-none, MatchOption-Some, MatchOption-None}
use Rattle.syncfile_core.proofs.Kept.{has_file-copied}
use Rattle.syncfile_core.proofs.file_slots.FileSlots.free.Goals as goal

pub returns-then-is_some : goal.returns-then-is_some
returns-then-is_some c =
    let there : has_file c.args.self.now c.args.name.now ≡ true = sym (has_file-copied c.args.self.now c.args.name.now c.get.result c.get.ensures.found) ∙ sym c.is_some.ensures ∙ c.if-is_some.true in
    record { free = MatchOption-Some _ _ _ _ (cause_to_refuse-there c.args.self.now c.args.name.now there) refl }

pub returns-then-count-ge-FILES : goal.returns-then-count-ge-FILES
returns-then-count-ge-FILES c =
    let new : has_file c.args.self.now c.args.name.now ≡ false = sym (has_file-copied c.args.self.now c.args.name.now c.get.result c.get.ensures.found) ∙ sym c.is_some.ensures ∙ c.if-is_some.false in
    let full : FILES ≤ length c.args.self.now = omega (arith, c.count.ensures) in
    record { free = MatchOption-Some _ _ _ _ (cause_to_refuse-full c.args.self.now c.args.name.now new full) refl }

pub returns : goal.returns
returns c =
    let new : has_file c.args.self.now c.args.name.now ≡ false = sym (has_file-copied c.args.self.now c.args.name.now c.get.result c.get.ensures.found) ∙ sym c.is_some.ensures ∙ c.if-is_some.false in
    let room : length c.args.self.now < FILES = omega (arith, c.count.ensures) in
    record { free = MatchOption-None _ _ _ (cause_to_refuse-none c.args.self.now c.args.name.now new room) refl }
