-- what a go.sum says about a hash

pub data Sum : Type 0 where
  Good : Sum
  Unlisted : Sum
  Differs : Sum
