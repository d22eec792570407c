use Rattle.std.proofs.Common.{append_assoc}
use Rattle.about.specs.Told.{version_text}
use Rattle.about.proofs.told.version_text.Goals as goal

pub returns : goal.returns
unfolding version_text
returns c =
    simp (c.in_ok-extend_from_slice-7.ensures.items, c.in_ok-extend_from_slice-6.ensures.items, c.in_ok-extend_from_slice-5.ensures.items, c.in_ok-extend_from_slice-4.ensures.items, c.in_ok-extend_from_slice-3.ensures.items, c.in_ok-extend_from_slice-2.ensures.items, c.in_ok-extend_from_slice.ensures.items, c.in_ok-text.ensures.items, c.as_bytes.ensures.value, c.as_bytes-2.ensures.value, c.as_bytes-3.ensures.value, c.as_bytes-4.ensures.value, append_assoc)
