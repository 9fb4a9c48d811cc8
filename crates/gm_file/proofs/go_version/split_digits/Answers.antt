use Rattle.gm_file.proofs.GoTexts.{digits-boundary}
use Rattle.gm_file.proofs.go_version.split_digits.Goals as goal

pub split_at-requires : goal.split_at-requires
split_at-requires c = rw (c.digits_len.ensures, c.as_bytes.ensures.value) (digits-boundary c.args.text.now c.utf8.text)
