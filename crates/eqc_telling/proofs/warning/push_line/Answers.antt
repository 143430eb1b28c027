use Rattle.eqc_telling.proofs.WarningLemmas.{line_pushed}
use Rattle.eqc_telling.proofs.warning.push_line.Goals as goal

pub returns : goal.returns
returns c =
    line_pushed c.extend_from_slice-7.result c.args.source.now c.args.contained.now
    c.as_bytes.result.now c.as_bytes-2.result.now c.as_bytes-3.result.now c.args.text.now.items
    _ _ _ _ _ _ _
    c.as_bytes.ensures.value c.as_bytes-2.ensures c.as_bytes-3.ensures
    c.in_ok-extend_from_slice.ensures.items c.in_ok-extend_from_slice-2.ensures.items
    c.in_ok-extend_from_slice-3.ensures.items
    c.in_ok-extend_from_slice-4.ensures.items c.in_ok-extend_from_slice-5.ensures.items
    c.in_ok-extend_from_slice-6.ensures.items
    c.extend_from_slice-7.ensures.items
