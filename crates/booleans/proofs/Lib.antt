-- What a signal's word says of the sample before.
mod Changes
