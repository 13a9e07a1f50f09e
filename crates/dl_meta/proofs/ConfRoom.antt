-- A new journal has room for the configuration.
use Rattle.std.proofs.Common.{◌≡◌, ℕ, ◌-◌, ◌≤◌, ◌<◌, List, length, sym, subst, arith}
use Rattle.dl_journal.specs.Commits.{spare_of, new_journal}
use Rattle.dl_formats.specs.declared.conf.Conf.{Conf}
use Rattle.dl_rules_nodes.specs.Items.{Setup, meta_item_bytes}
use Rattle.dl_meta.specs.Standing.{meta_file}
use Rattle.dl_meta.specs.Storing.{framed}
use Rattle.dl_meta.proofs.Frames.{length-conf}
use Rattle.dl_meta.proofs.Lifting.{frame_fits}

-- the frame of the configuration has a body, and the journal takes it
pub conf_fits : (conf : Conf) (frame : List ℕ) → frame ≡ framed (meta_item_bytes (Setup conf))
    → (13 < length frame) × (length frame - 13 ≤ spare_of (new_journal meta_file))
conf_fits conf frame is =
    let room : 5 ≤ 268435434 = omega arith in
    frame_fits (Setup conf) frame (spare_of (new_journal meta_file)) is (subst (λ (n : ℕ). n ≤ 268435434) (sym (length-conf conf)) room)
